use Rattle.std.proofs.Common.{rules, tests}
use Rattle.std.proofs.lemmas.Iterator.Search.{all_from_yields_List}
use Rattle.std.proofs.lemmas.Iterator.Splits.{YieldsList-from_slice_split}
use Rattle.std.specs.List.{list_any, slice_split}
use Rattle.std.proofs.Common.{eqb}
use Rattle.values.specs.Networks.{lies_in}
use Rattle.values.proofs.network.lie_in.Goals as goal

pub returns : goal.returns
returns c =
    all_from_yields_List (λ network. list_any (lies_in network) (slice_split (λ b. eqb b 44) c.args.outer.now)) _ _ _
    c.all.ensures.ran
    (YieldsList-from_slice_split _ _ c.args.inner.now c.split.ensures.rest c.split.ensures.done
    c.split.ensures.closure (λ x r q k. search (rules, tests)))
    (λ x r q k. search (rules, tests))

use Rattle.std.proofs.Common.{rules, tests}
use Rattle.std.proofs.lemmas.Iterator.Search.{any_from_yields_List}
use Rattle.std.proofs.lemmas.Iterator.Splits.{YieldsList-from_slice_split}
use Rattle.values.specs.Networks.{lies_in}
use Rattle.values.proofs.network.lies_in_one.Goals as goal

pub returns : goal.returns
returns c =
    any_from_yields_List (lies_in c.args.inner.now) _ _ _ c.any.ensures.ran
    (YieldsList-from_slice_split _ _ c.args.outer.now c.split.ensures.rest c.split.ensures.done
    c.split.ensures.closure (λ x r q k. search (rules, tests)))
    (λ x r q k. search (rules, tests))

use Rattle.std.proofs.Common.{rules, ap, ◌∙◌}
use Rattle.std.specs.Prelude.{◌==◌}
use Rattle.std.specs.List.{list_any}
use Rattle.guard.specs.SmallOrder.{little_endian}
use Rattle.guard.proofs.LittleEndian.{listed}
use Rattle.guard.proofs.small_order.is_listed.Goals as goal

pub returns : goal.returns
returns c =
    let bytes = c.args.encoding.now in
    c.contains.ensures.value
    ∙ (listed c.encodings.result.now bytes c.encodings.ensures.sizes (search rules) (search rules)
    ∙ ap (λ ys. list_any (λ y. y == little_endian bytes) ys) c.encodings.ensures.numbers)

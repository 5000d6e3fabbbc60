use Rattle.std.proofs.Common.{◌∙◌, ap}
use Rattle.std.specs.Prelude.{◌==◌}
use Rattle.std.specs.List.{list_any}
use Rattle.guard.specs.SmallOrder.{has_small_order, small_order_ys}
use Rattle.guard.proofs.small_order.has_small_order.Goals as goal

pub returns : goal.returns
unfolding has_small_order
returns c = c.is_listed.ensures ∙ ap (λ n. list_any (λ y. y == n) small_order_ys) c.without_sign.ensures

use Rattle.std.proofs.Common.{refl}
use Rattle.guard.specs.SmallOrder.{small_order_ys}
use Rattle.guard.proofs.small_order.encodings.Goals as goal

pub returns-clause-numbers : goal.returns-clause-numbers
unfolding small_order_ys
returns-clause-numbers c = refl

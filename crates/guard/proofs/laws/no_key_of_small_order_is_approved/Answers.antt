use Rattle.guard.proofs.Histories.{adds_no_small_order}
use Rattle.guard.proofs.laws.no_key_of_small_order_is_approved.Goals as goal

pub returns : goal.returns
returns c = adds_no_small_order

use Rattle.office.proofs.Words.{List, Message, State, refl, true, ℕ, ◌≡◌}
use Rattle.message.specs.declared.kinds.Message.TheVariants as message
use Rattle.office.specs.Refusals.{refusals}
use Rattle.office.specs.Laws.{ascend_from}
use Rattle.office.proofs.laws.refusals_ascend.Goals as goal

in_order : (s : State) (caller : List ℕ) (m : Message) (moment : ℕ) → ascend_from 10 (refusals s caller m moment) ≡ true
in_order s caller (message.Department d) moment = refl
in_order s caller m moment = refl

pub returns : goal.returns
returns c = in_order

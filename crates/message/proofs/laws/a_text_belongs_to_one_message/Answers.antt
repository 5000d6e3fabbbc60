use Rattle.message.proofs.TextLaws.{one_message}
use Rattle.message.proofs.laws.a_text_belongs_to_one_message.Goals as goal

pub returns : goal.returns
returns c = one_message

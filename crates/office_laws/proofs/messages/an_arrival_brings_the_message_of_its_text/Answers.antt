use Rattle.office_laws.proofs.Brought.{with_text_exactly}
use Rattle.office_laws.proofs.messages.an_arrival_brings_the_message_of_its_text.Goals as goal

pub returns : goal.returns
returns c = with_text_exactly

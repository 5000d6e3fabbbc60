use Rattle.message.proofs.TextLaws.{found_exactly}
use Rattle.message.proofs.laws.reading_finds_the_message_of_a_text.Goals as goal

pub returns : goal.returns
returns c = found_exactly

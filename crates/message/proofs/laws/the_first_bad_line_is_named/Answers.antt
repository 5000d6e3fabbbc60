use Rattle.message.proofs.TextLaws.{bad_exactly}
use Rattle.message.proofs.laws.the_first_bad_line_is_named.Goals as goal

pub returns : goal.returns
returns c = bad_exactly

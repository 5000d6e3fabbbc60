use Rattle.exchanges.proofs.LongFiles.{first_tells}
use Rattle.exchanges.proofs.exchange_reader.the_first_bytes_tell_of_a_file.Goals as goal

pub returns : goal.returns
returns c = first_tells

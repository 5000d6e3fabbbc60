use Rattle.lines.proofs.KeyLineLaws.{key_line_again, key_line_unique}
use Rattle.lines.proofs.laws.key_lines_are_read_again.Goals as goal

pub returns-clause-again : goal.returns-clause-again
returns-clause-again c = key_line_again

pub returns-clause-unique : goal.returns-clause-unique
returns-clause-unique c = key_line_unique

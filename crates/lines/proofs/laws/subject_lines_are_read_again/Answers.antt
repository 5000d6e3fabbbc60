use Rattle.lines.proofs.SubjectLineLaws.{line_again, line_unique}
use Rattle.lines.proofs.laws.subject_lines_are_read_again.Goals as goal

pub returns-clause-again : goal.returns-clause-again
returns-clause-again c = line_again

pub returns-clause-unique : goal.returns-clause-unique
returns-clause-unique c = line_unique

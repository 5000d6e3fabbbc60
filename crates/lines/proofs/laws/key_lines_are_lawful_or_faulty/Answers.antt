use Rattle.lines.proofs.KeyLineLaws.{fault_again, key_line_says}
use Rattle.lines.proofs.laws.key_lines_are_lawful_or_faulty.Goals as goal

pub returns-clause-says : goal.returns-clause-says
returns-clause-says c = key_line_says

pub returns-clause-faults : goal.returns-clause-faults
returns-clause-faults c = fault_again

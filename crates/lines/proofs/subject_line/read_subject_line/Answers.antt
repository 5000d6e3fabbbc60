use Rattle.text.specs.Bytes.{IsBytes}
use Rattle.std.proofs.Common.{arith}
use Rattle.lines.proofs.SubjectLineLaws.{found_in, only_in}
use Rattle.lines.proofs.subject_line.read_subject_line.Goals as goal

pub returns-clause-found : goal.returns-clause-found
returns-clause-found c =
    let fits : IsBytes c.args.line.now = λ i. let byte = c.type_inv.line i in omega arith in
    found_in c.args.line.now c.read.result fits c.read.ensures

pub returns-clause-only : goal.returns-clause-only
returns-clause-only c = λ k lawful is. only_in c.args.line.now c.read.result k lawful is c.read.ensures

use Rattle.std.proofs.Common.{arith}
use Rattle.text.specs.Bytes.{IsBytes}
use Rattle.lines.proofs.KeyLineLaws.{found_from}
use Rattle.lines.proofs.KeyLineAnswers.{answered_from, fault_from, only_from}
use Rattle.lines.proofs.key_line_reader.read_key_line.Goals as goal

pub returns-clause-found : goal.returns-clause-found
returns-clause-found c =
    let fits : IsBytes c.args.line.now = λ i. let byte = c.type_inv.line i in omega arith in
    found_from c.args.line.now c.read.result fits c.read.ensures

pub returns-clause-only : goal.returns-clause-only
returns-clause-only c = λ k lawful text. only_from c.args.line.now c.read.result k lawful text c.read.ensures

pub returns-clause-fault : goal.returns-clause-fault
returns-clause-fault c =
    let fits : IsBytes c.args.line.now = λ i. let byte = c.type_inv.line i in omega arith in
    fault_from c.args.line.now c.read.result fits c.read.ensures

pub returns-clause-answered : goal.returns-clause-answered
returns-clause-answered c =
    let fits : IsBytes c.args.line.now = λ i. let byte = c.type_inv.line i in omega arith in
    λ e other fault. answered_from c.args.line.now c.read.result e fits other fault c.read.ensures

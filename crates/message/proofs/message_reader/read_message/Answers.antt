use Rattle.message.proofs.Words.{IsBytes, arith}
use Rattle.message.proofs.TextLaws.{answered_from, fault_from, found_from, only_from}
use Rattle.message.proofs.message_reader.read_message.Goals as goal

pub returns-clause-found : goal.returns-clause-found
returns-clause-found c =
    let fits : IsBytes c.args.bytes.now = λ i. let byte = c.type_inv.bytes i in omega arith in
    found_from c.args.bytes.now c.read.result fits c.read.ensures

pub returns-clause-only : goal.returns-clause-only
returns-clause-only c = λ m lawful text. only_from c.args.bytes.now c.read.result m lawful text c.read.ensures

pub returns-clause-fault : goal.returns-clause-fault
returns-clause-fault c =
    let fits : IsBytes c.args.bytes.now = λ i. let byte = c.type_inv.bytes i in omega arith in
    λ n is. fault_from c.args.bytes.now c.read.result n fits is c.read.ensures

pub returns-clause-answered : goal.returns-clause-answered
returns-clause-answered c =
    let fits : IsBytes c.args.bytes.now = λ i. let byte = c.type_inv.bytes i in omega arith in
    λ n bad. answered_from c.args.bytes.now c.read.result n fits bad c.read.ensures

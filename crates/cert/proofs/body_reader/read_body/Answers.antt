use Rattle.cert.proofs.Words.{IsBytes, arith}
use Rattle.cert.proofs.BodyLaws.{answered_from, fault_from, found_from, only_from}
use Rattle.cert.proofs.body_reader.read_body.Goals as goal

pub returns-clause-found : goal.returns-clause-found
returns-clause-found c =
    let fits : IsBytes c.args.bytes.now = λ i. let byte = c.type_inv.bytes i in omega arith in
    found_from c.args.bytes.now c.fields_in.result fits c.fields_in.ensures

pub returns-clause-only : goal.returns-clause-only
returns-clause-only c = λ fields lawful text. only_from c.args.bytes.now c.fields_in.result fields lawful text
    c.fields_in.ensures

pub returns-clause-fault : goal.returns-clause-fault
returns-clause-fault c =
    let fits : IsBytes c.args.bytes.now = λ i. let byte = c.type_inv.bytes i in omega arith in
    fault_from c.args.bytes.now c.fields_in.result fits c.fields_in.ensures

pub returns-clause-answered : goal.returns-clause-answered
returns-clause-answered c =
    let fits : IsBytes c.args.bytes.now = λ i. let byte = c.type_inv.bytes i in omega arith in
    λ e other fault. answered_from c.args.bytes.now c.fields_in.result e fits other fault c.fields_in.ensures

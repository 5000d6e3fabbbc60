use Rattle.krl.proofs.SectionReading.{other_section, section_refused}
use Rattle.krl.proofs.reader.read_section.Goals as goal

pub returns-then-kind-ne-CERTIFICATES-clause-fault : goal.returns-then-kind-ne-CERTIFICATES-clause-fault
returns-then-kind-ne-CERTIFICATES-clause-fault c =
    other_section c.args.cursor.now c.next_tagged.new.cursor c.in-Some.kind c.in-Some.data.now c.in-Some.ensures.found.0
    c.in-Some.ensures.found.1 c.if-kind-ne-CERTIFICATES.true

pub returns-clause-fault : goal.returns-clause-fault
returns-clause-fault c =
    section_refused c.args.cursor.now c.next_tagged.new.cursor c.in-Some.kind c.in-Some.data.now
    c.read_certificates.result c.in-Some.ensures.found.0 c.in-Some.ensures.found.1 c.if-kind-ne-CERTIFICATES.false
    c.read_certificates.ensures.fault

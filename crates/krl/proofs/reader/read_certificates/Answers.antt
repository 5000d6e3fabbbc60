use Rattle.krl.proofs.Words.{IsBytes, arith, string_text, sym, ◌∙◌}
use Rattle.text.proofs.ByteLemmas.{IsBytes_left}
use Rattle.krl.proofs.SectionReading.{certificates_read}
use Rattle.krl.proofs.reader.read_certificates.Goals as goal

pub next_string-requires-2 : goal.next_string-requires-2
next_string-requires-2 c =
    let bytes : IsBytes c.args.bytes.now = λ i. omega (arith, c.type_inv.bytes i) in
    IsBytes_left c.args.bytes.now (string_text c.in-Some.ca.now) c.next_string.new.cursor bytes
    (sym c.new-cursor.ensures ∙ c.in-Some.ensures.found.1)

pub read_parts-requires : goal.read_parts-requires
read_parts-requires c =
    let bytes : IsBytes c.args.bytes.now = λ i. omega (arith, c.type_inv.bytes i) in
    let mid = IsBytes_left c.args.bytes.now (string_text c.in-Some.ca.now) c.next_string.new.cursor bytes
    (sym c.new-cursor.ensures ∙ c.in-Some.ensures.found.1) in
    IsBytes_left c.next_string.new.cursor
    (string_text c.in-Some-next_string._reserved.now) c.next_string-2.new.cursor mid
    c.in-Some-next_string.ensures.found.1

pub returns-clause-found : goal.returns-clause-found
returns-clause-found c =
    certificates_read c.args.bytes.now c.in-Some.ca.now c.in-Some-next_string._reserved.now c.next_string.new.cursor
    c.next_string-2.new.cursor c.args.blob.now c.args.serial c.args.key_id.now c.is_for_blob.result
    c.in_ok-named.named
    c.in-Some.ensures.found.0 c.in-Some-next_string.ensures.found.0
    (sym c.new-cursor.ensures
    ∙ c.in-Some.ensures.found.1) c.in-Some-next_string.ensures.found.1 c.in_ok-named.ensures.some
    c.in_ok-named.ensures.found c.is_for_blob.ensures

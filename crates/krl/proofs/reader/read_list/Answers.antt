use Rattle.krl.proofs.Words.{HeaderFault, IsBytes, List, arith, err_from_is_err_and, header_text, inl, subst, sym, ℕ}
use Rattle.krl.proofs.Words.{◌∙◌}
use Rattle.text.proofs.ByteLemmas.{IsBytes_left}
use Rattle.krl.proofs.SectionReading.{list_read, list_refused}
use Rattle.krl.proofs.reader.read_list.Goals as goal

pub read_sections-requires : goal.read_sections-requires
read_sections-requires c =
    let bytes : IsBytes c.args.bytes.now = λ i. omega (arith, c.type_inv.bytes i) in
    let head = c.in_ok-read_header.ensures.found in
    IsBytes_left c.args.bytes.now (header_text head.0) c.read_header.new.cursor bytes
    (sym c.new-cursor.ensures ∙ head.2)

pub returns-clause-found : goal.returns-clause-found
returns-clause-found c =
    let head = c.in_ok-read_header.ensures.found in
    list_read c.args.bytes.now c.read_header.new.cursor c.args.blob.now c.args.serial c.args.key_id.now head.0
    c.read_sections.result head.1 (sym c.new-cursor.ensures ∙ head.2) c.read_sections.ensures.found

pub returns-clause-fault : goal.returns-clause-fault
returns-clause-fault c =
    let head = c.in_ok-read_header.ensures.found in
    list_refused c.args.bytes.now c.read_header.new.cursor head.0 c.read_sections.result head.1
    (sym c.new-cursor.ensures ∙ head.2) c.read_sections.ensures.fault

pub returns-in_err-read_header-clause-fault : goal.returns-in_err-read_header-clause-fault
returns-in_err-read_header-clause-fault c =
    let p = err_from_is_err_and c.from_residual.result c.from_residual.ensures.1 in
    rw (p.1, p.2)
    (inl (subst
    (λ (b : List ℕ). HeaderFault b c.in_err-read_header.field-0.0) c.new-cursor.ensures
    c.in_err-read_header.ensures.fault))

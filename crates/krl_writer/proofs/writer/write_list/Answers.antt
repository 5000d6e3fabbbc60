use Rattle.krl.proofs.Words.{refl, writes_failed}
use Rattle.krl.proofs.WritingLaws.{stops, writes_on}
use Rattle.krl_writer.proofs.writer.write_list.Goals as goal

pub returns-in_err-write_header-clause-written : goal.returns-in_err-write_header-clause-written
returns-in_err-write_header-clause-written g c =
    stops _ _ _ c.from_residual.ensures.0 refl c.in_err-write_header.ensures.written

pub returns-in_err-write_sections-clause-written : goal.returns-in_err-write_sections-clause-written
returns-in_err-write_sections-clause-written g c =
    let r = c.from_residual-in_err-write_sections in
    writes_on _ _ refl c.in_ok-write_header.ensures.written
    (writes_failed r.result _ _ _ r.ensures.0 c.in_err-write_sections.ensures.written)

pub returns-clause-written : goal.returns-clause-written
returns-clause-written g c =
    writes_on _ _ refl c.in_ok-write_header.ensures.written c.in_ok-write_sections.ensures.written

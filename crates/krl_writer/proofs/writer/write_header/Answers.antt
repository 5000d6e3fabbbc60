use Rattle.krl.proofs.Words.{refl, writes_failed}
use Rattle.krl.proofs.WritingLaws.{stops, writes_on}
use Rattle.krl_writer.proofs.writer.write_header.Goals as goal

pub returns-in_err-write_piece-clause-written : goal.returns-in_err-write_piece-clause-written
returns-in_err-write_piece-clause-written g c = stops _ _ _ c.from_residual.ensures.0 refl c.in_err-write_piece.ensures

pub returns-in_err-write_u64-clause-written : goal.returns-in_err-write_u64-clause-written
returns-in_err-write_u64-clause-written g c =
    writes_on _ _ refl c.in_ok-write_piece.ensures
    (stops _ _ _ c.from_residual-in_err-write_u64.ensures.0 refl c.in_err-write_u64.ensures)

pub returns-in_err-write_u64-2-clause-written : goal.returns-in_err-write_u64-2-clause-written
returns-in_err-write_u64-2-clause-written g c =
    writes_on _ _ refl c.in_ok-write_piece.ensures (writes_on _ _ refl c.in_ok-write_u64.ensures
    (stops _ _ _ c.from_residual-in_err-write_u64-2.ensures.0 refl c.in_err-write_u64-2.ensures))

pub returns-in_err-write_piece-2-clause-written : goal.returns-in_err-write_piece-2-clause-written
returns-in_err-write_piece-2-clause-written g c =
    let r = c.from_residual-in_err-write_piece-2 in
    writes_on _ _ refl c.in_ok-write_piece.ensures (writes_on _ _ refl c.in_ok-write_u64.ensures
    (writes_on _ _ refl c.in_ok-write_u64-2.ensures
    (writes_failed r.result _ _ _ r.ensures.0 c.in_err-write_piece-2.ensures)))

pub returns-clause-written : goal.returns-clause-written
returns-clause-written g c =
    writes_on _ _ refl c.in_ok-write_piece.ensures (writes_on _ _ refl c.in_ok-write_u64.ensures
    (writes_on _ _ refl c.in_ok-write_u64-2.ensures c.in_ok-write_piece-2.ensures))

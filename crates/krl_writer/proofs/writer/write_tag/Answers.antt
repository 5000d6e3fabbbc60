use Rattle.krl.proofs.Words.{refl}
use Rattle.krl.proofs.WritingLaws.{stops, writes_on}
use Rattle.krl_writer.proofs.writer.write_tag.Goals as goal

pub returns-in_err-write_piece : goal.returns-in_err-write_piece
returns-in_err-write_piece g c = stops _ _ _ c.from_residual.ensures.0 refl c.in_err-write_piece.ensures

pub returns : goal.returns
returns g c = writes_on _ _ refl c.in_ok-write_piece.ensures c.write_u32.ensures

use Rattle.krl.proofs.Words.{refl}
use Rattle.krl.proofs.WritingLaws.{stops, writes_on}
use Rattle.krl_writer.proofs.writer.write_string.Goals as goal

pub returns-in_err-write_u32 : goal.returns-in_err-write_u32
returns-in_err-write_u32 g c = stops _ _ _ c.from_residual.ensures.0 refl c.in_err-write_u32.ensures

pub returns : goal.returns
returns g c = writes_on _ _ refl c.in_ok-write_u32.ensures c.write_piece.ensures

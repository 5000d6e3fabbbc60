use Rattle.krl.proofs.Words.{arith, false, is_short, refl, ◌≡◌}
use Rattle.krl.proofs.WritingLaws.{long_one, stops, writes_on}
use Rattle.krl_writer.proofs.writer.write_long.Goals as goal

pub returns-in_err-write_tag : goal.returns-in_err-write_tag
returns-in_err-write_tag g c =
    let long : is_short c.args.run ≡ false = grind (arith, c.is_short.ensures, c.if-is_short.false) in
    stops _ _ _ c.from_residual.ensures.0 (long_one c.args.run long) c.in_err-write_tag.ensures

pub returns-in_err-write_u64 : goal.returns-in_err-write_u64
returns-in_err-write_u64 g c =
    let long : is_short c.args.run ≡ false = grind (arith, c.is_short.ensures, c.if-is_short.false) in
    writes_on _ _ (long_one c.args.run long) c.in_ok-write_tag.ensures
    (stops _ _ _ c.from_residual-in_err-write_u64.ensures.0 refl c.in_err-write_u64.ensures)

pub returns : goal.returns
returns g c =
    let long : is_short c.args.run ≡ false = grind (arith, c.is_short.ensures, c.if-is_short.false) in
    writes_on _ _ (long_one c.args.run long) c.in_ok-write_tag.ensures
    (writes_on _ _ refl c.in_ok-write_u64.ensures c.write_u64-2.ensures)

use Rattle.krl.proofs.Words.{arith, is_short, true, ◌≡◌}
use Rattle.krl.proofs.WritingLaws.{short_two, stops, writes_on}
use Rattle.krl_writer.proofs.writer.write_short.Goals as goal

pub returns-in_err-write_u64 : goal.returns-in_err-write_u64
returns-in_err-write_u64 g c =
    let short : is_short c.args.run ≡ true = grind (arith, c.is_short.ensures, c.if-not-is_short.false) in
    stops _ _ _ c.from_residual.ensures.0 (short_two c.args.run short c.if-run.false) c.in_err-write_u64.ensures

pub returns : goal.returns
returns g c =
    let short : is_short c.args.run ≡ true = grind (arith, c.is_short.ensures, c.if-not-is_short.false) in
    writes_on _ _ (short_two c.args.run short c.if-run.false) c.in_ok-write_u64.ensures c.write_u64-3.ensures

use Rattle.std.proofs.Common.{sym, arith}
use Rattle.std.proofs.lemmas.List.{take_all}
use Rattle.memory_store.proofs.shown.first_batch.Goals as goal

pub returns-then-certificates-lt-BATCH : goal.returns-then-certificates-lt-BATCH
returns-then-certificates-lt-BATCH c =
    sym (take_all 1000 c.args.certificates.now (omega (arith, c.if-certificates-lt-BATCH.true)))

use Rattle.std.proofs.Common.{sym, arith}
use Rattle.memory_store.proofs.Signing.{set_signed, none_signed}
use Rattle.memory_store.proofs.issued.sign.Goals as goal

pub returns-then-place-len : goal.returns-then-place-len
returns-then-place-len c =
    set_signed c.args.certificates.now.items c.index_mut.result.now c.args.place c.args.signature c.index_mut.ensures.value
    (omega (arith, c.if-place-len.true, c.len.ensures, c.args.certificates.now.ok))

pub returns-else-place-len : goal.returns-else-place-len
returns-else-place-len c =
    sym (none_signed c.args.certificates.now.items c.args.place c.args.signature (omega (arith, c.if-place-len.false, c.len.ensures, c.args.certificates.now.ok)))

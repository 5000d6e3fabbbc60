use Rattle.std.proofs.Common.{◌≡◌, take}
use Rattle.memory_store.proofs.shown.copied.Given as goal

abbrev pub invariant-loop-certificate : goal.invariant-loop-certificate
invariant-loop-certificate l = l.copies.items ≡ take l.certificate-index l.certificates

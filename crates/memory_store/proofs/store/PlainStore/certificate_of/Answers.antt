use Rattle.memory_store.proofs.Words.{IfSome, IsCertificate, MemoryContents, certificate_of, state_of, subst}
use Rattle.memory_store.proofs.Keeping.{issued_lawful}
use Rattle.memory_store.proofs.store.PlainStore.certificate_of.Goals as goal

pub returns-in-Some-clause-lawful : goal.returns-in-Some-clause-lawful
returns-in-Some-clause-lawful c =
    let lawful = subst (λ (t : MemoryContents). IfSome (certificate_of (state_of t) c.in-Some.serial) IsCertificate) c.self.view_is (issued_lawful _ c.in-Some.serial c.self.invariant) in
    rw c.issued.ensures lawful

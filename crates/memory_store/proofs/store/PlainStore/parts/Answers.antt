use Rattle.memory_store.proofs.Words.{AreParts, Ca, List, MemoryContents, subst}
use Rattle.std.specs.Prelude.{IfOk}
use Rattle.memory_store.proofs.store.PlainStore.parts.Goals as goal

pub returns : goal.returns
returns c =
    subst (λ (x : MemoryContents). IfOk c.parts_of.result (λ parts. AreParts parts.items x.cas x.runs)) c.self.view_is
    (subst (λ (cas : List Ca). IfOk c.parts_of.result (λ parts. AreParts parts.items cas c.self.inside.revoked))
    c.as_slice.ensures.value c.parts_of.ensures)

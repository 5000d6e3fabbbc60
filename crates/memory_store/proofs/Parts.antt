-- The published list after a history.
use Rattle.memory_store.proofs.Words.{AreParts, Arrival, Kept, List, MemoryContents, Opening, Shows, head_of, refl}
use Rattle.memory_store.proofs.Words.{state_of, subst, sym, ◌≡◌}
use Rattle.office.specs.declared.publication.Revoked.{Revoked}
use Rattle.office.specs.Publication.{AreRevoked}
use Rattle.office.specs.History.{state}
use Rattle.office.proofs.Parts.{AreIssued, parts_are_published}
use Rattle.office.proofs.Ranges.{revoked_is_issued}

-- the published list that the lists give is that of the history
pub shown : (t : MemoryContents) (kept : List Kept) (o : Opening) (l : List Arrival) (r : Revoked) → r.head ≡ head_of (state_of t)
    → AreParts r.parts.items t.cas t.runs → r.key_ids ≡ t.key_ids → Shows (state_of t) kept o l → AreRevoked r (state o l)
shown t kept o l r head parts key_ids m = subst (AreRevoked r) m.is_state (record {
  head = head;
  parts = parts_are_published (state_of t) t.runs r.parts.items parts (λ n. refl)
      (subst AreIssued (sym m.is_state) (revoked_is_issued o l));
  key_ids = key_ids;
})

-- One call after another.
use Rattle.store_sql.proofs.Words.{Bool, Damaged, Device, Fault, HasCause, HasFailed, IsSome, IsTrue, IsUnchanged}
use Rattle.store_sql.proofs.Words.{KeepsCommit, NoMemory, Option, State, Survives, Trees, arith, false, if◌then◌else◌}
use Rattle.store_sql.proofs.Words.{inl, inr, subst, true, unchanged_then, ◌∙◌, ◌≡◌}
use Rattle.std.proofs.lemmas.Bool.{both_ways}
use Rattle.store_sql.specs.Calls.{Fails}

-- the effect of a failure inside a transaction
pub stops : (a b : State) → Fails a b → KeepsCommit a b
stops a b (inl same) = record { was_open = λ _. same.0.was_open; committed = λ _. same.0.committed_is }
stops a b (inr back) = record { was_open = back.was_open; committed = λ still. (back.undone still).1 }

-- inside a transaction, what is committed stays
pub inside_is : (b : Bool) {X : Type 0} (last now shown : X) → IsTrue b → shown ≡ (if b then last else now) → shown ≡ last
inside_is true last now shown t e = e
inside_is false last now shown t e = absurd (let f : false ≡ true = t in cc)

pub stops_then : (a b c : State) → IsUnchanged a b → Fails b c → Fails a c
stops_then a b c p (inl q) = inl (unchanged_then a b c p q)
stops_then a b c p (inr back) = inr (record {
  was_open = λ _. p.0.was_open;
  undone = λ still. let u = back.undone still in (u.0 ∙ p.0.committed_is, u.1 ∙ p.0.committed_is);
  autocommit = back.autocommit;
  unmarked = back.unmarked;
  counts = record {
    changes = back.counts.changes ∙ p.1.changes;
    last_rowid = back.counts.last_rowid ∙ p.1.last_rowid;
  };
})

-- A failure after a call is one since before it, if the call didn't close the connection.
module _ (a b c : State) (P : Trees → Type 0) (one : Survives a b P)
    (was_shut : b.is_open ≡ false → a.is_open ≡ false) where
  failed_since : HasFailed b c → HasFailed a c
  failed_since (inl more) = inl (omega (arith, one.counts, more))
  failed_since (inr (inl shut)) = inr (inl (was_shut shut))
  failed_since (inr (inr limit)) = inr (inr (subst (λ (o : Option _). IsSome o) one.limit limit))

  caused_since : (f : Fault) → HasCause b c f → HasCause a c f
  caused_since NoMemory cause = tt
  caused_since Damaged cause = cause
  caused_since Device cause = failed_since cause

pub cause_since : (a b c : State) (f : Fault) (P : Trees → Type 0) → Survives a b P
    → (b.is_open ≡ false → a.is_open ≡ false) → HasCause b c f → HasCause a c f
cause_since a b c f P one was_shut = caused_since a b c P one was_shut f

pub failed_then : (a b c : State) (P : Trees → Type 0) → Survives a b P → IsTrue b.is_open → HasFailed b c → HasFailed a c
failed_then a b c P one is_open = failed_since a b c P one (λ shut. absurd (both_ways b.is_open shut is_open))

pub cause_then : (a b c : State) (f : Fault) (P : Trees → Type 0) → Survives a b P → IsTrue b.is_open → HasCause b c f
    → HasCause a c f
cause_then a b c f P one is_open = cause_since a b c f P one (λ shut. absurd (both_ways b.is_open shut is_open))

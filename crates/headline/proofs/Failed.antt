-- A failure in answering a request is one of the disk.
use Rattle.std.proofs.Common.{Err, Ok, Result, arith, inl, inr, ℕ}
use Rattle.std.specs.Prelude.{IfErr, IfOk, IsTrue, OnErr, Vec}
use Rattle.std.specs.declared.alloc.Global.{Global}
use Rattle.sqlite.specs.State.{State}
use Rattle.office.specs.declared.store_fault.StoreFault.{StoreFault}
use Rattle.office.specs.Faults.{HasRegisterCause}
use Rattle.store.specs.Transactions.{FailuresStay, IsAsBefore}
use Rattle.store.specs.Meaning.{RegisterHasFailed, Tells}
use Rattle.store.proofs.Words.{both_ways, cases_Bool}
use Rattle.web.specs.Answers.{IsRefusal}
use Rattle.web.specs.Causes.{FailsAfter}
use Rattle.web.proofs.Shown.{cause_as}

-- a fault has left the rows as they were
pub unchanged : {T : Type 0} (r : Result T StoreFault) (Honest Open As More : Type 0)
    → (Honest → Open → OnErr r (As × More)) → OnErr r (Honest → Open → As)
unchanged (Ok x) Honest Open As More h = tt
unchanged (Err e) Honest Open As More h = λ honest is. (h honest is).0

-- a response that is a refusal, too
pub refused_unchanged : {E : Type 0} (r : Result (Vec ℕ Global) E) (Honest Open As More : Type 0)
    → (Honest → IfOk r (λ v. IsRefusal v.items → Open → As × More))
    → IfOk r (λ v. IsRefusal v.items → Honest → Open → As)
refused_unchanged (Ok v) Honest Open As More h = λ refused honest is. (h honest refused is).0
refused_unchanged (Err e) Honest Open As More h = tt

module _ {S : Type 0} (of : S → State) where
  -- the database failed after calls that left it as it was
  abbrev pub FailsLater : S → S → Type 0
  FailsLater = FailsAfter (λ s. IsTrue (of s).is_open)
      (λ a b. IsAsBefore (of a) (of b) × FailuresStay (of a) (of b)) (λ s o l. Tells (of s) o l)
      (λ a b. RegisterHasFailed (of a) (of b))

  -- it failed during the whole call, or was shut before it
  failed_after : (old new : S) → FailsLater old new → RegisterHasFailed (of old) (of new)
  failed_after old new f clean o l tells = elim (f.failed clean o l (f.same o l tells)) [
    | inl more ↦ inl (omega (arith, f.rows.1, more))
    | inr shut ↦ elim (cases_Bool (of old).is_open) [
      | inr is ↦ inr is
      | inl is ↦ absurd (both_ways (of f.before).is_open shut (f.still is))
    ]
  ]

  pub caused_by_disk : {T : Type 0} (old new : S) (r : Result T StoreFault)
      → IfErr r (λ e. HasRegisterCause e (FailsLater old new))
      → IfErr r (λ e. HasRegisterCause e (RegisterHasFailed (of old) (of new)))
  caused_by_disk old new r is =
      cause_as r (FailsLater old new) (RegisterHasFailed (of old) (of new)) (failed_after old new) is

-- Why a part of a transaction fails, and therefore the whole.
use Rattle.std.proofs.Common.{◌≡◌, inl, inr, ◌≤◌, true, Ok, Err, Result, sym, subst, ◌∙◌, arith}
use Rattle.std.specs.Prelude.{IfErr, IsSome}
use Rattle.std.proofs.lemmas.Bool.{both_ways, cases_Bool}
use Rattle.sqlite.specs.Tree.{Trees}
use Rattle.sqlite.specs.Effect.{Database}
use Rattle.sqlite.specs.State.{State, HasCleanDisk, Survives}
use Rattle.store_sql.specs.Faults.{HasCause, HasFailed}
use Rattle.store_sql.specs.Refusals.{HasCauseOr}
use Rattle.store_sql.specs.declared.table_fault.Fault.{Fault}
use Rattle.store_sql.specs.declared.table_fault.Fault.TheVariants.{Damaged, Device, NoMemory}
use Rattle.store_sql.specs.Calls.{Begins}
use Rattle.rows.specs.Tables.{Tables}
use Rattle.rows.specs.Transactions.{Answers, Concludes, EndsFor, FailsFor, StopsFor}
use Rattle.rows.proofs.Steps.{Leads}

-- ---- failures of the database

-- a failure in the first of two steps
pub failed_early : (a b c : State) → HasFailed a b → b.faults ≤ c.faults → HasFailed a c
failed_early a b c (inl more) le = inl (omega (arith, more, le))
failed_early a b c (inr other) le = inr other

-- a failure in the second step
pub failed_late : (P : Trees → Type 0) (a b c : State) → Survives a b P → HasCleanDisk b → b.faults ≤ c.faults
    → HasFailed b c
    → HasFailed a c
failed_late P a b c one clean le (inl more) = inl (omega (arith, one.counts, more))
failed_late P a b c one clean le (inr (inr limit)) = inr (inr (subst IsSome one.limit limit))
failed_late P a b c one clean le (inr (inl shut)) = elim (cases_Bool a.is_open) [
  | inr is ↦ inr (inl is)
  | inl is ↦ elim (one.closes clean is) [
    | inl still ↦ absurd (both_ways b.is_open shut still)
    | inr more ↦ inl (omega (arith, more, le))
  ]
]

-- ---- causes

pub cause_of : (refused : Type 0) (a b : State) (f : Fault) → HasCause a b f → HasCauseOr refused a b f
cause_of refused a b NoMemory h = tt
cause_of refused a b Device h = inl h
cause_of refused a b Damaged h = h

-- a cause stays one between other states, if a failure and a refusal do
cause_so : (less refused : Type 0) (a b c d : State) (f : Fault) → (HasFailed a b → HasFailed c d) → (less → refused)
    → HasCauseOr less a b f → HasCauseOr refused c d f
cause_so less refused a b c d NoMemory late so h = tt
cause_so less refused a b c d Damaged late so h = h
cause_so less refused a b c d Device late so (inl failed) = inl (late failed)
cause_so less refused a b c d Device late so (inr why) = inr (so why)

module _ {C : Type 0} {these : Tables C} where
  -- ---- calls

  -- a part that succeeds, and then one that fails
  pub fails_then : {A B X : Type 0} (Before : A → Database → Type 0) (Later : B → Database → Type 0) (late : B → Type 0)
      (refused : A → Type 0) (next : A → B) (P : Trees → Type 0) (a b c : State) (r : Result X Fault)
      → Leads these Before Later next a b → ((x : A) → Before x a.now → late (next x) → refused x) → Survives a b P
      → HasCleanDisk b
      → b.faults ≤ c.faults → FailsFor Later late b c r → FailsFor Before refused a c r
  fails_then Before Later late refused next P a b c (Ok v) leads so one clean le h = tt
  fails_then Before Later late refused next P a b c (Err f) leads so one clean le h = λ x before.
      cause_so (late (next x)) (refused x) b c a c f (failed_late P a b c one clean le) (so x before)
      (h (next x) (leads x before).2)

-- a call of whose database more is known, or whose refusal is stated differently
pub fails_weaker : {A B X : Type 0} (Before : A → Database → Type 0) (Later : B → Database → Type 0) (late : B → Type 0)
    (refused : A → Type 0) (next : A → B) (a b : State) (r : Result X Fault)
    → ((x : A) → Before x a.now → Later (next x) a.now) → ((x : A) → Before x a.now → late (next x) → refused x)
    → FailsFor Later late a b r
    → FailsFor Before refused a b r
fails_weaker Before Later late refused next a b (Ok v) known so h = tt
fails_weaker Before Later late refused next a b (Err f) known so h = λ x before.
    cause_so (late (next x)) (refused x) a b a b f (λ failed. failed) (so x before) (h (next x) (known x before))

module _ {C : Type 0} (these : Tables C) where
  -- ---- the whole

  module _ {A X : Type 0} (Before : A → Database → Type 0) (Due : A → X → Type 0) (after : A → C)
      (Refused : A → Type 0)
      (P : Trees → Type 0) (old first last new : State) (one : Survives old first (λ _. ⊥)) (two : Survives first last P)
      (early : HasCleanDisk first) (late : HasCleanDisk last) (le : last.faults ≤ new.faults) where
    from_start : (x : A) (f : Fault) → HasCauseOr (Refused x) first new f → HasCauseOr (Refused x) old new f
    from_start x f =
        cause_so (Refused x) (Refused x) first new old new f
        (failed_late (λ _. ⊥) old first new one early (omega (arith, two.counts, le))) (λ why. why)

    -- a transaction that is begun and then concluded
    pub stops_for : (r q : Result X Fault) → Begins {X = Unit {0}} {E = Fault} old first (Ok tt)
        → Answers these Before Due after first last r → FailsFor Before Refused first last r → Concludes r last new q
        → EndsFor r last new q → IfErr q (StopsFor Before Refused old new)
    stops_for (Ok v) (Ok w) begun answers fails concludes ends = tt
    stops_for (Ok v) (Err f) begun answers fails concludes ends = λ x resting.
        let before : Before x first.now = subst (Before x) (sym begun.1.now_is) (resting begun.1.was_open).now in
        let inside : last.in_transaction ≡ true = (answers x before).1.mode ∙ begun.1.mode in
        from_start x f (cause_so (Refused x) (Refused x) last new first new f (failed_late P first last new two late le)
        (λ why. why) (cause_of (Refused x) last new f (ends inside)))
    stops_for (Err e) (Ok w) begun answers fails concludes ends = absurd concludes
    stops_for (Err e) (Err f) begun answers fails concludes ends = λ x resting.
        let before : Before x first.now = subst (Before x) (sym begun.1.now_is) (resting begun.1.was_open).now in
        from_start x f (cause_so (Refused x) (Refused x) first last first new f
        (λ failed. failed_early first last new failed le) (λ why. why)
        (subst (HasCauseOr (Refused x) first last) (sym concludes.0) (fails x before)))

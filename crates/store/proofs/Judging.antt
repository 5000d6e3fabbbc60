-- Answers of a migration, and the causes of its faults.
use Rattle.store.proofs.Words.{Arrival, Begins, Bool, CaRow, Contents, Err, Fault, Had, HasCause, HasCauseOr}
use Rattle.store.proofs.Words.{HasCleanDisk, HasFailed, HasStopped, IfErr, IsCaDue, IsExcused, IsRefused, IsUnchanged}
use Rattle.store.proofs.Words.{Judges, List, Makes, Means, OfficeRow, Ok, Opening, Rests, Result, StoreFault, Survives}
use Rattle.store.proofs.Words.{Trees, WrongSchema, [], arith, ca_of, false, first_ca_row, former_contents}
use Rattle.store.proofs.Words.{if◌then◌else◌, inl, inr, migrated, refl, store_fault_of, subst, sym, told, true, ◌==◌}
use Rattle.store.proofs.Words.{◌∙◌, ◌∷◌, ◌≡◌, ◌≤◌}
use Rattle.std.specs.Prelude.{IsOk, IsPermutation}
use Rattle.sqlite.specs.State.{State}
use Rattle.office.specs.declared.store_fault.StoreFault.TheVariants.{Damaged, Device}
use Rattle.office.specs.declared.store_fault.StoreFault.TheVariants.{NoMemory}
use Rattle.store_sql.specs.declared.table_fault.Fault.TheVariants as table
use Rattle.store.proofs.Steps.{goes_still}
use Rattle.store.specs.Migrating.{TellsEnd}
use Rattle.store.proofs.Contents.{ca_same}
use Rattle.store.proofs.Causes.{failed_late}
use Rattle.store.proofs.Failing.{stopped_early, stopped_late}

is_ok : {X E : Type 0} (r : Result X E) (x : X) → r ≡ Ok x → IsOk r
is_ok r x e = subst IsOk (sym e) refl

pub judged_for : (c : Contents) (P Q : Type 0) (r : Result (Unit {0}) StoreFault) → (P → Q) → Judges c P r
    → Judges c Q r
judged_for c P Q (Err Device) f h = f h
judged_for c P Q _ f h = h

-- a fault of a call on the tables
pub judged_fault : (old new : State) (c : Contents) (f : Fault) → HasCause old new f
    → Judges c (HasStopped c old new) (Err (store_fault_of f))
judged_fault old new c table.NoMemory h = tt
judged_fault old new c table.Device h = inl h
judged_fault old new c table.Damaged h = absurd h

-- CA 1 was inserted, or was not
judged_put : (old new : State) (c : Contents) (ca : CaRow) (r : Result (Unit {0}) Fault) → ca_of c.offices ≡ Ok ca
    → Means old.now c → IfErr r (λ f. (d : Contents) → Means old.now d → HasCauseOr (IsRefused ca d) old new f)
    → Judges c (HasStopped c old new) (told r)
judged_put old new c ca (Ok x) is means h = is_ok (ca_of c.offices) ca is
judged_put old new c ca (Err table.NoMemory) is means h = tt
judged_put old new c ca (Err table.Device) is means h =
    elim (h c means) [ inl failed ↦ inl failed | inr refused ↦ inr (ca, is, refused) ]
judged_put old new c ca (Err table.Damaged) is means h = absurd (h c means)

-- the same after reading the rows
pub judged_filled : (P : Trees → Type 0) (a b d : State) (c : Contents) (rows : List OfficeRow) (ca : CaRow)
    (r : Result (Unit {0}) Fault) → Survives a b P → HasCleanDisk b → b.faults ≤ d.faults → Means a.now c
    → IsUnchanged a b × IsPermutation c.offices rows → ca_of rows ≡ Ok ca
    → IfErr r (λ f. (e : Contents) → Means b.now e → HasCauseOr (IsRefused ca e) b d f)
    → Judges c (HasStopped c a d) (told r)
judged_filled P a b d c rows ca r one clean le means found is h =
    judged_for c (HasStopped c b d) (HasStopped c a d) (told r) (stopped_late P a b d c one clean le)
    (judged_put b d c ca r (ca_same c.offices rows found.1 ∙ is) (goes_still a b c found.0 means).means h)

not_device : (o : OfficeRow) (a b : Bool)
    → (if a then (if b then Ok (first_ca_row o) else Err Damaged) else Err WrongSchema) ≡ Err Device → ⊥
not_device o true true e = cc
not_device o true false e = cc
not_device o false b e = cc

never_device : (rows : List OfficeRow) → ca_of rows ≡ Err Device → ⊥
never_device [] e = cc
never_device (o ∷ []) e = not_device o (o.schema == 1) (o.id == 1) e
never_device (o ∷ p ∷ rows) e = cc

-- the answer that the office's rows specify
pub judged_rows : (c : Contents) (P : Type 0) (rows : List OfficeRow) (e : StoreFault) → IsPermutation c.offices rows
    → IsCaDue (ca_of rows) (Err e) → Judges c P (Err e)
judged_rows c P rows NoMemory same h = tt
judged_rows c P rows Device same h = absurd (never_device rows h)
judged_rows c P rows _ same h = ca_same c.offices rows same ∙ h

-- a successful migration is still inside its transaction
abbrev IsInside : Result (Unit {0}) StoreFault → State → Type 0
IsInside (Ok x) s = s.in_transaction ≡ true
IsInside (Err e) s = Unit {0}

-- the end of a migration that succeeded or failed
judged_end : (mid new : State) (c : Contents) (P Q : Type 0) (moved r : Result (Unit {0}) StoreFault)
    → (P → Q) → (HasFailed mid new → Q) → Judges c P moved → IsInside moved mid → TellsEnd moved mid new r
    → Judges c Q r
judged_end mid new c P Q (Ok x) (Ok y) early late h inside tells = h
judged_end mid new c P Q (Ok x) (Err e) early late h inside tells =
    let told = tells inside in subst (λ (e : StoreFault). Judges c Q (Err e)) (sym told.1) (by_fault told.0 told.2)
  where
    by_fault : (f : Fault) → HasCause mid new f → Judges c Q (Err (store_fault_of f))
    by_fault table.NoMemory cause = tt
    by_fault table.Device cause = late cause
    by_fault table.Damaged cause = absurd cause
judged_end mid new c P Q (Err e) r early late h inside tells =
    subst (λ (r : Result (Unit {0}) StoreFault). Judges c Q r) (sym tells) (judged_for c P Q (Err e) early h)

still_inside : (b m : State) (c : Contents) (moved : Result (Unit {0}) StoreFault)
    → b.in_transaction ≡ true → Had c b.now
    → Makes Had migrated b m moved → IsInside moved m
still_inside b m c (Ok x) inside had makes = (makes c had).1.mode ∙ inside
still_inside b m c (Err e) inside had makes = tt

pub judged_whole : (P Q : Trees → Type 0) (a b m d : State) (c : Contents) (moved r : Result (Unit {0}) StoreFault)
    → Survives a b P → HasCleanDisk b → Survives b m Q → HasCleanDisk m → m.faults ≤ d.faults → Rests (Had c) a
    → Begins {X = Unit {0}} {E = Fault} a b (Ok tt) → Makes Had migrated b m moved
    → ((e : Contents) → Had e b.now → Judges e (HasStopped e b m) moved) → TellsEnd moved m d r
    → Judges c (HasStopped c a d) r
judged_whole P Q a b m d c moved r one clean two mild le rests begun makes judges tells =
    let had : Had c b.now = subst (Had c) (sym begun.1.now_is) rests.now in
    let through : b.faults ≤ d.faults = omega (arith, le, two.counts) in
    judged_end m d c (HasStopped c b m) (HasStopped c a d) moved r
    (λ stopped. stopped_late P a b d c one clean through (stopped_early b m d c stopped le))
    (λ failed. inl (failed_late P a b d one clean through (failed_late Q b m d two mild le failed)))
    (judges c had) (still_inside b m c moved begun.1.mode had makes) tells

-- if the tables of an office represent a history, there is no other fault
pub excused : (o : Opening) (l : List Arrival) (stopped : Type 0) (e : StoreFault)
    → Judges (former_contents o l) stopped (Err e) → IsExcused stopped e
excused o l stopped NoMemory h = tt
excused o l stopped Device h = h
excused o l stopped _ h = absurd cc

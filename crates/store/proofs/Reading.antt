-- Reading calls over the tables of an office, one after the other.
use Rattle.store.proofs.Words.{Arrival, Asking, Database, Err, Fault, HasCleanDisk, IfOk, IsErrAnd, IsHistory}
use Rattle.store.proofs.Words.{IsOfHistory, IsUnchanged, Kept, List, Means, Never, Ok, Opening, Reading, Result}
use Rattle.store.proofs.Words.{ShowsFromRows, ShowsOffice, State, arith, cause_then, err_from_is_err_and}
use Rattle.store.proofs.Words.{first_accepted, inl, kept_by, never_then, office_contents, reads_then, stops_then, subst}
use Rattle.store.proofs.Words.{sym, unchanged_then, ◌≡◌}
use Rattle.sqlite.specs.State.{State as Connection}
use Rattle.text.specs.declared.memory.NoMemory.{NoMemory as Refusal}
use Rattle.office.specs.History.{state}
use Rattle.store.proofs.Sorting.{asked}
use Rattle.store.proofs.OfHistory.{of_history}
use Rattle.store.proofs.Showing.{shows_weaker}
use Rattle.store.specs.Meaning.{allocated}
use Rattle.store.proofs.Lawful.{lawful_after}

-- `P` of the state after a history and its stored requests
abbrev pub At : {X : Type 0} → (State → List Kept → X → Type 0) → Opening → List Arrival → X → Type 0
At P o l x = P (state o l) (kept_by (first_accepted o l)) x

-- what holds of each valid state of a history holds of each office
pub shows_of_history : {X : Type 0} (P : State → List Kept → X → Type 0) (old new : Connection) (r : Result X Fault)
    → ShowsFromRows (λ s kept x. IsOfHistory s kept → P s kept x) old new r → ShowsOffice P old new r
shows_of_history P old new (Ok x) shows = λ o l history means.
    let p = shows (state o l) (kept_by (first_accepted o l)) (lawful_after o l history) means in
    (p.0 (of_history o l history.office.opening), p.1)
shows_of_history P old new (Err f) shows = λ o l history means.
    shows (state o l) (kept_by (first_accepted o l)) (lawful_after o l history) means

-- so does what holds of each valid state
pub shows_office : {X : Type 0} (P : State → List Kept → X → Type 0) (old new : Connection) (r : Result X Fault)
    → ShowsFromRows P old new r → ShowsOffice P old new r
shows_office P old new r shows =
    shows_of_history P old new r (shows_weaker P (λ s kept x. IsOfHistory s kept → P s kept x) old new r
    (λ s kept x lawful p of. p) shows)

-- ---- the whole contract of a reading call

-- a call specified for valid states, or for those of a history
module _ {X : Type 0} {P : State → List Kept → X → Type 0} {old new : Connection} {r : Result X Fault} where
  pub of_state : Asking (Unit {0}) P old new r → Reading P old new r
  of_state asks = record {
    shows = λ clean. shows_office P old new r (asks.shows clean tt);
    reads = λ clean. asks.reads clean tt;
    survives = asks.survives;
  }

  pub of_past : Asking (Unit {0}) (λ s kept x. IsOfHistory s kept → P s kept x) old new r → Reading P old new r
  of_past asks = record {
    shows = λ clean. shows_of_history P old new r (asks.shows clean tt);
    reads = λ clean. asks.reads clean tt;
    survives = asks.survives;
  }

-- the fault of a call, passed on
pub reading_failed : {X Y : Type 0} {First : State → List Kept → X → Type 0} {Whole : State → List Kept → Y → Type 0}
    {a b : Connection} {f : Fault} {r : Result Y Fault} → Reading First a b (Err f) → IsErrAnd r (λ e. e ≡ f)
    → Reading Whole a b r
reading_failed {r = r} one told =
    let p = err_from_is_err_and r told in
    rw (p.1, p.2) (record { shows = one.shows; reads = one.reads; survives = one.survives })

-- ---- steps after a call that changed nothing

pub still_means : (a b : Connection) (o : Opening) (l : List Arrival) → IsUnchanged a b
    → Means a.now (office_contents o l) → Means b.now (office_contents o l)
still_means a b o l same means = subst (λ (d : Database). Means d (office_contents o l)) (sym same.0.now_is) means

module _ {X Y : Type 0} {First : State → List Kept → X → Type 0} {a b : Connection} {x : X}
    (one : Reading First a b (Ok x)) (Whole : State → List Kept → Y → Type 0) where
  -- another call, which reads the same tables
  pub and_then : {Rest : State → List Kept → Y → Type 0} {c : Connection} {r : Result Y Fault} → Reading Rest b c r
      → ((o : Opening) (l : List Arrival) (y : Y) → IsHistory o l → At First o l x → At Rest o l y → At Whole o l y)
      → Reading Whole a c r
  and_then {Rest} {c} {r} rest both =
      let still : HasCleanDisk c → HasCleanDisk b = λ clean. omega (arith, rest.survives.clean) in
      record {
        shows = λ clean. go r (one.shows (still clean)) (rest.shows clean);
        reads = λ clean. reads_then a b c x r (one.reads (still clean)) (λ _. rest.reads clean);
        survives = never_then a b c one.survives rest.survives;
      }
    where
      go : (r : Result Y Fault) → ShowsOffice First a b (Ok x) → ShowsOffice Rest b c r → ShowsOffice Whole a c r
      go (Ok y) first rest = λ o l history means.
          let p = first o l history means in
          let q = rest o l history (still_means a b o l p.1 means) in
          (both o l y history p.0 q.0, unchanged_then a b c p.1 q.1)
      go (Err f) first rest = λ o l history means.
          let p = first o l history means in
          let q = rest o l history (still_means a b o l p.1 means) in
          (stops_then a b c p.1 q.0, cause_then a b c f Never one.survives p.1.0.is_open q.1)

  -- a value computed from its answer
  pub and_shown : (y : Y) → ((o : Opening) (l : List Arrival) → IsHistory o l → At First o l x → At Whole o l y)
      → Reading Whole a b (Ok y)
  and_shown y both = record {
    shows = λ clean o l history means. let p = one.shows clean o l history means in (both o l history p.0, p.1);
    reads = one.reads;
    survives = one.survives;
  }

  -- a value computed from its answer, if memory allows
  pub and_made : (Made : Y → Type 0) (m : Result Y Refusal) (r : Result Y Fault) → r ≡ allocated m → IfOk m Made
      → ((o : Opening) (l : List Arrival) (y : Y) → IsHistory o l → At First o l x → Made y → At Whole o l y)
      → Reading Whole a b r
  and_made Made m r is holds both = record {
    shows = λ clean. subst (λ z. ShowsOffice Whole a b z) (sym is) (go m holds (one.shows clean));
    reads = λ clean. asked a b (one.reads clean) r;
    survives = one.survives;
  }
    where
      go : (m : Result Y Refusal) → IfOk m Made → ShowsOffice First a b (Ok x) → ShowsOffice Whole a b (allocated m)
      go (Ok y) holds first = λ o l history means.
          let p = first o l history means in (both o l y history p.0 holds, p.1)
      go (Err e) holds first = λ o l history means. (inl (first o l history means).1, tt)

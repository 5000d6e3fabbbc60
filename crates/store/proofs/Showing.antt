-- Reading calls, one after the other.
use Rattle.store.proofs.Words.{Asking, Database, Err, Fault, HasCleanDisk, IsErrAnd, IsLawful, IsTrue, IsUnchanged}
use Rattle.store.proofs.Words.{Kept, List, Means, Never, Ok, Result, ShowsFromRows, State, Survives, Trees, arith}
use Rattle.store.proofs.Words.{cause_then, contents_of, err_from_is_err_and, inl, never_then, reads_then, refl}
use Rattle.store.proofs.Words.{stops_then, subst, sym, unchanged_then, ◌≡◌}
use Rattle.sqlite.specs.State.{State as Connection}
use Rattle.sqlite.proofs.StateLemmas.{unchanged}

-- a weaker claim about the answer
pub shows_weaker : {X : Type 0} (P Q : State → List Kept → X → Type 0) (old new : Connection) (r : Result X Fault)
    → ((s : State) (kept : List Kept) (x : X) → IsLawful s → P s kept x → Q s kept x) → ShowsFromRows P old new r
    → ShowsFromRows Q old new r
shows_weaker P Q old new (Ok x) less shows = λ s kept lawful means.
    let p = shows s kept lawful means in (less s kept x lawful p.0, p.1)
shows_weaker P Q old new (Err f) less shows = shows

-- ---- two calls

still_means : (a b : Connection) (s : State) (kept : List Kept) → IsUnchanged a b → Means a.now (contents_of s kept)
    → Means b.now (contents_of s kept)
still_means a b s kept same means = subst (λ (d : Database). Means d (contents_of s kept)) (sym same.0.now_is) means

-- a call, and then another on the same tables, which are open
pub shows_then : {X Y : Type 0} (First : State → List Kept → X → Type 0) (Rest Whole : State → List Kept → Y → Type 0)
    (a b c : Connection) (x : X) (r : Result Y Fault) (P : Trees → Type 0) → Survives a b P
    → ((s : State) (kept : List Kept) (y : Y) → IsLawful s → First s kept x → Rest s kept y → Whole s kept y)
    → ShowsFromRows First a b (Ok x) → (IsTrue b.is_open → ShowsFromRows Rest b c r) → ShowsFromRows Whole a c r
shows_then First Rest Whole a b c x (Ok y) P one both first rest = λ s kept lawful means.
    let p = first s kept lawful means in
    let q = rest p.1.0.is_open s kept lawful (still_means a b s kept p.1 means) in
    (both s kept y lawful p.0 q.0, unchanged_then a b c p.1 q.1)
shows_then First Rest Whole a b c x (Err f) P one both first rest = λ s kept lawful means.
    let p = first s kept lawful means in
    let q = rest p.1.0.is_open s kept lawful (still_means a b s kept p.1 means) in
    (stops_then a b c p.1 q.0, cause_then a b c f P one p.1.0.is_open q.1)

-- ---- crashes

pub survives_still : (a : Connection) (P : Trees → Type 0) → Survives a a P
survives_still a P = record {
  clean = omega arith;
  shield = λ h. h;
  counts = omega arith;
  limit = refl;
  closes = λ clean is_open. inl is_open;
  crash = λ clean trees h. inl h;
}

-- ---- the whole contract of a call that reads rows

module _ {X Given : Type 0} {P : State → List Kept → X → Type 0} {a b : Connection} where
  -- a weaker claim about the answer, under a stronger condition
  pub asks_weaker : {More : Type 0} {Q : State → List Kept → X → Type 0} {r : Result X Fault} → Asking Given P a b r
      → (More → Given) → ((s : State) (kept : List Kept) (x : X) → IsLawful s → P s kept x → Q s kept x)
      → Asking More Q a b r
  asks_weaker {Q = Q} {r = r} asks given less = record {
    shows = λ clean more. shows_weaker P Q a b r less (asks.shows clean (given more));
    reads = λ clean more. asks.reads clean (given more);
    survives = asks.survives;
  }

  -- a value computed from its answer
  pub asks_shown : {Y : Type 0} {Q : State → List Kept → Y → Type 0} {x : X} {y : Y} → Asking Given P a b (Ok x)
      → ((s : State) (kept : List Kept) → IsLawful s → P s kept x → Q s kept y) → Asking Given Q a b (Ok y)
  asks_shown asks shown = record {
    shows = λ clean given s kept lawful means.
        let p = asks.shows clean given s kept lawful means in (shown s kept lawful p.0, p.1);
    reads = asks.reads;
    survives = asks.survives;
  }

  -- its fault, passed on
  pub asks_failed : {Y : Type 0} {Q : State → List Kept → Y → Type 0} {f : Fault} {r : Result Y Fault}
      → Asking Given P a b (Err f) → IsErrAnd r (λ e. e ≡ f) → Asking Given Q a b r
  asks_failed {r = r} asks told =
      let p = err_from_is_err_and r told in
      rw (p.1, p.2) (record { shows = asks.shows; reads = asks.reads; survives = asks.survives })

  -- another call, which needs an open connection and completes the answer
  pub asks_both : {Y : Type 0} {Rest Whole : State → List Kept → Y → Type 0} {c : Connection} {x : X}
      {r : Result Y Fault} → Asking Given P a b (Ok x) → Asking (IsTrue b.is_open) Rest b c r
      → ((s : State) (kept : List Kept) (y : Y) → IsLawful s → P s kept x → Rest s kept y → Whole s kept y)
      → Asking Given Whole a c r
  asks_both {Rest = Rest} {Whole = Whole} {c = c} {x = x} {r = r} one rest both =
      let still : HasCleanDisk c → HasCleanDisk b = λ clean. omega (arith, rest.survives.clean) in
      record {
        shows = λ clean given. shows_then P Rest Whole a b c x r Never one.survives both (one.shows (still clean) given)
            (rest.shows clean);
        reads = λ clean given. reads_then a b c x r (one.reads (still clean) given) (rest.reads clean);
        survives = never_then a b c one.survives rest.survives;
      }

-- a call that reads no row
pub asks_nothing : {X : Type 0} {P : State → List Kept → X → Type 0} {a : Connection} {x : X}
    → ((s : State) (kept : List Kept) → IsLawful s → P s kept x) → Asking (IsTrue a.is_open) P a a (Ok x)
asks_nothing {a = a} shown = record {
  shows = λ clean is_open s kept lawful means. (shown s kept lawful, unchanged a is_open);
  reads = λ clean is_open. unchanged a is_open;
  survives = survives_still a Never;
}

-- A part of the writes, for contents of which more is known.
use Rattle.store.proofs.Words.{Contents, Database, Err, Fault, Goes, Has, Makes, Means, Ok, Result, Survives, Waits}
use Rattle.store.proofs.Words.{survives_weaker}
use Rattle.sqlite.specs.State.{State}
use Rattle.store.proofs.Same.{IsSame, means_same}
use Rattle.store.proofs.Steps.{Leads}

goes_same : (a b : State) (c d : Contents) → IsSame c d → Goes a b c → Goes a b d
goes_same a b c d same g = record {
  was_open = g.was_open;
  is_open = g.is_open;
  means = means_same b.now c d same g.means;
  committed = g.committed;
  mode = g.mode;
}

-- the tables hold some contents from which the change makes the rows of `after`
abbrev pub Holds : {A : Type 0} → (A → Database → Type 0) → (A → Contents) → (Contents → Contents) → State → Type 0
Holds {A} Before after f a = (x : A) → Before x a.now → (c : Contents) × Means a.now c × IsSame (f c) (after x)

pub made : {A X : Type 0} (Before : A → Database → Type 0) (after : A → Contents)
    (f : Contents → Contents) (a b : State)
    (r : Result X Fault) → Holds Before after f a → Makes Has f a b r → Makes Before after a b r
made Before after f a b (Ok v) holds makes = λ x before.
    let h = holds x before in (tt, goes_same a b (f h.0) (after x) h.2 (makes h.0 h.1).1)
made Before after f a b (Err e) holds makes = λ x before inside. let h = holds x before in makes h.0 h.1 inside

pub waited : {A : Type 0} (Before : A → Database → Type 0) (a b : State)
    → ((x : A) → Before x a.now → (c : Contents) × Means a.now c) → Survives a b (Waits Has a)
    → Survives a b (Waits Before a)
waited Before a b means one =
    survives_weaker a b (Waits Has a) (Waits Before a)
    (λ clean trees h x before. let m = means x before in h m.0 m.1) one

-- a part that succeeds leads to the next
pub leads_on : (f : Contents → Contents) (a b : State) → Makes {X = Unit {0}} {E = Fault} Has f a b (Ok tt)
    → Leads Has Has f a b
leads_on f a b makes d means = let g = (makes d means).1 in (f d, g, g.means)

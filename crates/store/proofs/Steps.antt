-- Parts of one transaction, one after the other.
use Rattle.store.proofs.Words.{Answers, Begins, Concludes, Contents, Database, Ends, Err, Fault, Goes, Has}
use Rattle.store.proofs.Words.{HasCleanDisk, HasEnded, IsTrue, IsUnchanged, LeavesDue, Makes, Means, Ok, Result, Steps}
use Rattle.store.proofs.Words.{Survives, Trees, Waits, arith, refl, stops, subst, survives_weaker, sym, true, ◌∙◌, ◌≡◌}
use Rattle.sqlite.specs.State.{State, KeepsCommit, Shows}
use Rattle.sqlite.proofs.StateLemmas.{survives_then}
use Rattle.store_sql.specs.Contents.{Kept}
use Rattle.store_sql.specs.Calls.{Changes, MayLeave}
use Rattle.store_sql.proofs.Later.{inside_is}
use Rattle.store.specs.Transactions.{LeavesAnswered}
use Rattle.store.specs.Transactions.{Leaves as AfterAll}

-- ---- one part

-- a write
pub goes : (a b : State) (c : Contents) → Steps a b c → Goes a b c
goes a b c s = record {
  was_open = s.was_open;
  is_open = s.is_open;
  means = s.means;
  committed = λ inside. inside_is a.in_transaction a.committed b.now b.committed inside s.committed;
  mode = s.mode;
}

-- a query
pub goes_still : (a b : State) (c : Contents) → IsUnchanged a b → Means a.now c → Goes a b c
goes_still a b c same means = record {
  was_open = same.0.was_open;
  is_open = same.0.is_open;
  means = subst (Has c) (sym same.0.now_is) means;
  committed = λ _. same.0.committed_is;
  mode = same.0.mode;
}

pub makes : {X : Type 0} (after : Contents → Contents) (a b : State) (r : Result X Fault) → Changes after a b r
    → Makes Has after a b r
makes after a b (Ok x) h = λ c means. (tt, goes a b (after c) (h c means))
makes after a b (Err e) h = λ c means inside. stops a b h

-- ---- one part after the other

pub goes_then : (a b c : State) (x y : Contents) → Goes a b x → Goes b c y → Goes a c y
goes_then a b c x y p q = record {
  was_open = p.was_open;
  is_open = q.is_open;
  means = q.means;
  committed = λ inside. q.committed (subst IsTrue (sym p.mode) inside) ∙ p.committed inside;
  mode = q.mode ∙ p.mode;
}

pub stops_then : (a b c : State) (x : Contents) → Goes a b x → (IsTrue b.in_transaction → KeepsCommit b c)
    → IsTrue a.in_transaction → KeepsCommit a c
stops_then a b c x p late inside =
    let k = late (subst IsTrue (sym p.mode) inside) in
    record { was_open = λ _. p.was_open; committed = λ still. k.committed still ∙ p.committed inside }

-- a part that succeeds leaves contents of which `Later` holds
abbrev pub Leads : {A B : Type 0} → (A → Database → Type 0) → (B → Database → Type 0) → (A → B) → State → State → Type 0
Leads {A} Before Later next a b = (x : A) → Before x a.now → (m : Contents) × Goes a b m × Later (next x) b.now

-- a part that succeeds, and then the others
pub answers_then : {A B X E : Type 0} (Before : A → Database → Type 0) (Due : A → X → Type 0) (after : A → Contents)
    (Later : B → Database → Type 0) (Owed : B → X → Type 0) (afterwards : B → Contents) (next : A → B) (a b c : State)
    (r : Result X E) → Leads Before Later next a b → Answers Later Owed afterwards b c r
    → ((x : A) (v : X) → Owed (next x) v → Due x v) → ((x : A) → afterwards (next x) ≡ after x)
    → Answers Before Due after a c r
answers_then Before Due after Later Owed afterwards next a b c (Ok v) leads rest due is = λ x before.
    let m = leads x before in
    let q = rest (next x) m.2 in
    (due x v q.0, subst (Goes a c) (is x) (goes_then a b c m.0 (afterwards (next x)) m.1 q.1))
answers_then Before Due after Later Owed afterwards next a b c (Err e) leads rest due is = λ x before.
    let m = leads x before in stops_then a b c m.0 m.1 (rest (next x) m.2)

-- a write that succeeds leads to what follows
pub leads : (f : Contents → Contents) (a b : State) → ((d : Contents) → Means a.now d → Steps a b (f d))
    → Leads Has Has f a b
leads f a b one d means = let s = goes a b (f d) (one d means) in (f d, s, s.means)

-- a write, and then another
pub makes_then : {Y : Type 0} (f g : Contents → Contents) (a b c : State) (r : Result Y Fault)
    → ((d : Contents) → Means a.now d → Steps a b (f d)) → Makes Has g b c r → Makes Has (λ d. g (f d)) a c r
makes_then f g a b c r one rest =
    answers_then Has (λ _ _. Unit {0}) (λ d. g (f d)) Has (λ _ _. Unit {0}) g f a b c r (leads f a b one) rest
    (λ _ _ _. tt) (λ _. refl)

-- ---- crashes during a part

pub waits_then : {A B : Type 0} (Before : A → Database → Type 0) (Later : B → Database → Type 0) (next : A → B)
    (a b c : State) → (HasCleanDisk b → Leads Before Later next a b) → Survives a b (Waits Before a)
    → Survives b c (Waits Later b) → Survives a c (Waits Before a)
waits_then Before Later next a b c leads one rest =
    survives_then a b c (Waits Before a) (Waits Later b) (Waits Before a) (λ clean trees h. h)
    (λ clean trees h x before.
    let m = leads (omega (arith, rest.clean)) x before in sym m.1.mode ∙ h (next x) m.2) one rest

-- a write alone
pub waits : (after : Contents → Contents) (a b : State) → Survives a b (MayLeave after a) → Survives a b (Waits Has a)
waits after a b one = survives_weaker a b (MayLeave after a) (Waits Has a) (λ clean trees h c means. (h c means).0) one

-- ---- the whole transaction

module _ {A X : Type 0} (Before : A → Database → Type 0) (Due : A → X → Type 0) (after : A → Contents) where
  undone : {E : Type 0} (a b c d : State) (f : E) → Shows a b a.now a.committed true
      → ((x : A) → Before x b.now → IsTrue c.is_open → c.committed ≡ b.committed) → HasEnded c d
      → Ends Before Due after a d (Err f)
  undone a b c d f begun keeps ended = λ still. (
    begun.was_open,
    λ x rests.
        let same : c.committed ≡ a.committed =
        keeps x (subst (Before x) (sym begun.now_is) rests.now) (ended.was_open still) ∙ begun.committed_is in
        record {
          autocommit = ended.autocommit;
          now = subst (Before x) (sym (ended.now still ∙ same)) rests.committed;
          committed = subst (Before x) (sym (ended.committed still ∙ same)) rests.committed;
        },
  )

  pub ends : {E : Type 0} (a b c d : State) (r q : Result X E) → Begins {X = Unit {0}} {E = Fault} a b (Ok tt)
      → Answers Before Due after b c r → Concludes r c d q → Ends Before Due after a d q
  ends a b c d (Ok v) (Ok w) begun answers told = (
    begun.1.was_open,
    told.1.is_open,
    λ x rests.
        let p = answers x (subst (Before x) (sym begun.1.now_is) rests.now) in (
          subst (Due x) (sym told.0) p.0,
          record {
            autocommit = told.1.mode;
            now = subst (Has (after x)) (sym told.1.now_is) p.1.means;
            committed = subst (Has (after x)) (sym told.1.committed_is) p.1.means;
          },
        ),
  )
  ends a b c d (Ok v) (Err f) begun answers told =
      undone a b c d f begun.1 (λ x before still. (answers x before).1.committed begun.1.mode) told
  ends a b c d (Err e) (Ok w) begun answers told = absurd told
  ends a b c d (Err e) (Err f) begun answers told =
      undone a b c d f begun.1 (λ x before still. (answers x before begun.1.mode).committed still) told.1

  -- the tables after a crash during the whole
  pub left_due : {E : Type 0} (a b c d : State) (r : Result X E)
      → (HasCleanDisk b → Begins {X = Unit {0}} {E = Fault} a b (Ok tt))
      → (HasCleanDisk c → Answers Before Due after b c r) → Survives a b (λ _. ⊥) → Survives b c (Waits Before b)
      → Survives c d (LeavesAnswered r c) → Survives a d (LeavesDue Before Due after a)
  left_due {E = E} a b c d r begun answers one two three =
      survives_then a b d (λ _. ⊥) (LeavesDue Before Due after a) (LeavesDue Before Due after a)
      (λ clean trees h. absurd h) (λ clean trees h. h) one
      (survives_then b c d (Waits Before b) (LeavesAnswered r c) (LeavesDue Before Due after a)
      (λ clean trees h.
      let start : HasCleanDisk b = omega (arith, two.clean, three.clean) in
      let was = begun start in (
        was.1.was_open,
        λ x rests. absurd
            (let e = sym was.1.mode ∙ h x (subst (Before x) (sym was.1.now_is) rests.now) in cc),
      ))
      (λ clean trees h.
      let start : HasCleanDisk b = omega (arith, two.clean, three.clean) in
      let mid : HasCleanDisk c = omega (arith, three.clean) in
      let was = begun start in
      (was.1.was_open, λ x rests. kept r trees h x (answers mid) (subst (Before x) (sym was.1.now_is) rests.now)))
      two three)
    where
      kept : (r : Result X E) (trees : Trees) → LeavesAnswered r c trees → (x : A) → Answers Before Due after b c r
          → Before x b.now → (v : X) × Due x v × Kept trees (after x)
      kept (Ok v) trees h x answers before =
          let done = answers x before in (v, done.0, subst (λ t. Kept t (after x)) (sym h) done.1.means.kept)
      kept (Err e) trees h x answers before = absurd h

  -- the same without the claim about the answer
  pub left : {E : Type 0} (a b c d : State) (r : Result X E)
      → (HasCleanDisk b → Begins {X = Unit {0}} {E = Fault} a b (Ok tt))
      → (HasCleanDisk c → Answers Before Due after b c r) → Survives a b (λ _. ⊥) → Survives b c (Waits Before b)
      → Survives c d (LeavesAnswered r c) → Survives a d (AfterAll Before after a)
  left a b c d r begun answers one two three =
      survives_weaker a d (LeavesDue Before Due after a) (AfterAll Before after a)
      (λ clean trees h. (h.0, λ x rests. (h.1 x rests).2)) (left_due a b c d r begun answers one two three)

-- Parts of one transaction, one after the other.
use Rattle.store_sql.specs.Calls.{Begins}
use Rattle.std.proofs.Common.{◌≡◌, true, IsTrue, refl, sym, subst, ◌∙◌, arith}
use Rattle.std.specs.Prelude.{Result, Ok, Err}
use Rattle.sqlite.specs.Tree.{Trees}
use Rattle.sqlite.specs.Effect.{Database}
use Rattle.sqlite.specs.State.{State, HasCleanDisk, Survives, KeepsCommit, IsUnchanged, Shows}
use Rattle.sqlite.proofs.StateLemmas.{survives_then, survives_weaker}
use Rattle.rows.specs.Tables.{Kept, Means, Tables}
use Rattle.rows.specs.Calls.{Changes, MayLeave, Steps}
use Rattle.store_sql.specs.declared.table_fault.Fault.{Fault}
use Rattle.store_sql.proofs.Later.{inside_is, stops}
use Rattle.rows.specs.Transactions.{Answers, Concludes, Ends, Goes, Has, HasEnded, Leaves as AfterAll, LeavesAnswered}
use Rattle.rows.specs.Transactions.{Makes, Waits}

module _ {C : Type 0} {these : Tables C} where
  -- ---- one part

  -- a write
  pub goes : (a b : State) (c : C) → Steps these a b c → Goes these a b c
  goes a b c s = record {
    was_open = s.was_open;
    is_open = s.is_open;
    means = s.means;
    committed = λ inside. inside_is a.in_transaction a.committed b.now b.committed inside s.committed;
    mode = s.mode;
  }

  -- a query
  pub goes_still : (a b : State) (c : C) → IsUnchanged a b → Means these a.now c → Goes these a b c
  goes_still a b c same means = record {
    was_open = same.0.was_open;
    is_open = same.0.is_open;
    means = subst (Has these c) (sym same.0.now_is) means;
    committed = λ _. same.0.committed_is;
    mode = same.0.mode;
  }

module _ {C : Type 0} (these : Tables C) where
  pub makes : {X : Type 0} (after : C → C) (a b : State) (r : Result X Fault) → Changes these after a b r
      → Makes these (Has these) after a b r
  makes after a b (Ok x) h = λ c means. (tt, goes a b (after c) (h c means))
  makes after a b (Err e) h = λ c means inside. stops a b h

module _ {C : Type 0} {these : Tables C} where
  -- ---- one part after the other

  pub goes_then : (a b c : State) (x y : C) → Goes these a b x → Goes these b c y → Goes these a c y
  goes_then a b c x y p q = record {
    was_open = p.was_open;
    is_open = q.is_open;
    means = q.means;
    committed = λ inside. q.committed (subst IsTrue (sym p.mode) inside) ∙ p.committed inside;
    mode = q.mode ∙ p.mode;
  }

  pub stops_then : (a b c : State) (x : C) → Goes these a b x → (IsTrue b.in_transaction → KeepsCommit b c)
      → IsTrue a.in_transaction → KeepsCommit a c
  stops_then a b c x p late inside =
      let k = late (subst IsTrue (sym p.mode) inside) in
      record { was_open = λ _. p.was_open; committed = λ still. k.committed still ∙ p.committed inside }

module _ {C : Type 0} (these : Tables C) where
  -- what a part that succeeded leaves to the next: a database that satisfies `Later`
  abbrev pub Leads : {A B : Type 0} → (A → Database → Type 0) → (B → Database → Type 0) → (A → B) → State → State → Type 0
  Leads {A} Before Later next a b = (x : A) → Before x a.now → (m : C) × Goes these a b m × Later (next x) b.now

module _ {C : Type 0} {these : Tables C} where
  -- a part that succeeded, and then the rest
  pub answers_then : {A B X E : Type 0} (Before : A → Database → Type 0) (Due : A → X → Type 0) (after : A → C)
      (Later : B → Database → Type 0) (Owed : B → X → Type 0) (afterwards : B → C) (next : A → B) (a b c : State)
      (r : Result X E) → Leads these Before Later next a b → Answers these Later Owed afterwards b c r
      → ((x : A) (v : X) → Owed (next x) v → Due x v) → ((x : A) → afterwards (next x) ≡ after x)
      → Answers these Before Due after a c r
  answers_then Before Due after Later Owed afterwards next a b c (Ok v) leads rest due is = λ x before.
      let m = leads x before in
      let q = rest (next x) m.2 in
      (due x v q.0, subst (Goes these a c) (is x) (goes_then a b c m.0 (afterwards (next x)) m.1 q.1))
  answers_then Before Due after Later Owed afterwards next a b c (Err e) leads rest due is = λ x before.
      let m = leads x before in stops_then a b c m.0 m.1 (rest (next x) m.2)

  -- a write that succeeded leads to what follows
  pub leads : (f : C → C) (a b : State) → ((d : C) → Means these a.now d → Steps these a b (f d))
      → Leads these (Has these) (Has these) f a b
  leads f a b one d means = let s = goes a b (f d) (one d means) in (f d, s, s.means)

  -- a write, and then a second one
  pub makes_then : {Y : Type 0} (f g : C → C) (a b c : State) (r : Result Y Fault)
      → ((d : C) → Means these a.now d → Steps these a b (f d)) → Makes these (Has these) g b c r → Makes these (Has these) (λ d. g (f d)) a c r
  makes_then f g a b c r one rest =
      answers_then (Has these) (λ _ _. Unit {0}) (λ d. g (f d)) (Has these) (λ _ _. Unit {0}) g f a b c r (leads f a b one) rest
      (λ _ _ _. tt) (λ _. refl)

  -- ---- crashes in the middle of it

  pub waits_then : {A B : Type 0} (Before : A → Database → Type 0) (Later : B → Database → Type 0) (next : A → B)
      (a b c : State) → (HasCleanDisk b → Leads these Before Later next a b) → Survives a b (Waits Before a)
      → Survives b c (Waits Later b) → Survives a c (Waits Before a)
  waits_then Before Later next a b c leads one rest =
      survives_then a b c (Waits Before a) (Waits Later b) (Waits Before a) (λ clean trees h. h)
      (λ clean trees h x before.
      let m = leads (omega (arith, rest.clean)) x before in sym m.1.mode ∙ h (next x) m.2) one rest

  -- a write alone
  pub waits : (after : C → C) (a b : State) → Survives a b (MayLeave these after a) → Survives a b (Waits (Has these) a)
  waits after a b one = survives_weaker a b (MayLeave these after a) (Waits (Has these) a) (λ clean trees h c means. (h c means).0) one

module _ {C : Type 0} (these : Tables C) where
  -- ---- the whole

  module _ {A X : Type 0} (Before : A → Database → Type 0) (Due : A → X → Type 0) (after : A → C) where
    undone : {E : Type 0} (a b c d : State) (f : E) → Shows a b a.now a.committed true
        → ((x : A) → Before x b.now → IsTrue c.is_open → c.committed ≡ b.committed) → HasEnded c d
        → Ends these Before Due after a d (Err f)
    undone a b c d f begun keeps ended = λ still. (
      begun.was_open,
      λ x rests.
          let same : c.committed ≡ a.committed =
          keeps x (subst (Before x) (sym begun.now_is) rests.now) (ended.was_open still) ∙ begun.committed_is in
          record {
            autocommit = ended.autocommit;
            now = subst (Before x) (sym (ended.now still ∙ same)) rests.committed;
            committed = subst (Before x) (sym (ended.committed still ∙ same)) rests.committed;
          },
    )

    pub ends : {E : Type 0} (a b c d : State) (r q : Result X E) → Begins {X = Unit {0}} {E = Fault} a b (Ok tt)
        → Answers these Before Due after b c r → Concludes r c d q → Ends these Before Due after a d q
    ends a b c d (Ok v) (Ok w) begun answers told = (
      begun.1.was_open,
      told.1.is_open,
      λ x rests.
          let p = answers x (subst (Before x) (sym begun.1.now_is) rests.now) in (
            subst (Due x) (sym told.0) p.0,
            record {
              autocommit = told.1.mode;
              now = subst (Has these (after x)) (sym told.1.now_is) p.1.means;
              committed = subst (Has these (after x)) (sym told.1.committed_is) p.1.means;
            },
          ),
    )
    ends a b c d (Ok v) (Err f) begun answers told =
        undone a b c d f begun.1 (λ x before still. (answers x before).1.committed begun.1.mode) told
    ends a b c d (Err e) (Ok w) begun answers told = absurd told
    ends a b c d (Err e) (Err f) begun answers told =
        undone a b c d f begun.1 (λ x before still. (answers x before begun.1.mode).committed still) told.1

    -- what a crash leaves of the whole
    pub left : {E : Type 0} (a b c d : State) (r : Result X E)
        → (HasCleanDisk b → Begins {X = Unit {0}} {E = Fault} a b (Ok tt))
        → (HasCleanDisk c → Answers these Before Due after b c r) → Survives a b (λ _. ⊥) → Survives b c (Waits Before b)
        → Survives c d (LeavesAnswered r c) → Survives a d (AfterAll these Before after a)
    left {E = E} a b c d r begun answers one two three =
        survives_then a b d (λ _. ⊥) (AfterAll these Before after a) (AfterAll these Before after a) (λ clean trees h. absurd h)
        (λ clean trees h. h) one
        (survives_then b c d (Waits Before b) (LeavesAnswered r c) (AfterAll these Before after a)
        (λ clean trees h.
        let start : HasCleanDisk b = omega (arith, two.clean, three.clean) in
        let was = begun start in (
          was.1.was_open,
          λ x rests. absurd
              (let e = sym was.1.mode ∙ h x (subst (Before x) (sym was.1.now_is) rests.now) in cc),
        ))
        (λ clean trees h.
        let start : HasCleanDisk b = omega (arith, two.clean, three.clean) in
        let mid : HasCleanDisk c = omega (arith, three.clean) in
        let was = begun start in
        (was.1.was_open, λ x rests. kept r trees h x (answers mid) (subst (Before x) (sym was.1.now_is) rests.now)))
        two three)
      where
        kept : (r : Result X E) (trees : Trees) → LeavesAnswered r c trees → (x : A) → Answers these Before Due after b c r
            → Before x b.now → Kept these trees (after x)
        kept (Ok v) trees h x answers before = subst (λ ts. Kept these ts (after x)) (sym h) (answers x before).1.means.kept
        kept (Err e) trees h x answers before = absurd h

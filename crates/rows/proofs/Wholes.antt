-- One write in a transaction of its own.
use Rattle.std.proofs.Common.{◌≡◌, inl, inr, false, Ok, Err, Result, IsTrue, sym, subst, ◌∙◌, arith}
use Rattle.sqlite.specs.State.{State, HasCleanDisk, Survives}
use Rattle.sqlite.proofs.StateLemmas.{survives_weaker}
use Rattle.store_sql.specs.declared.table_fault.Fault.{Fault}
use Rattle.store_sql.specs.Calls.{Begins, Fails, FailsWhere}
use Rattle.rows.specs.Tables.{Tables}
use Rattle.rows.specs.Transactions.{Concludes, EndsFor, Has, LeavesAnswered, Part, Rests, Waits, Whole}
use Rattle.rows.proofs.Before.{concludes_before, fails_before}
use Rattle.rows.proofs.Causes.{cause_of, stops_for}
use Rattle.rows.proofs.Steps.{ends, left}

-- a concluded transaction isn't open any more
concluded : (r q : Result (Unit {0}) Fault) (c d : State) → Concludes r c d q → d.in_transaction ≡ false
concluded (Ok x) (Ok y) c d told = told.1.mode
concluded (Ok x) (Err e) c d told = told.autocommit
concluded (Err e) (Ok y) c d told = absurd told
concluded (Err e) (Err f) c d told = told.1.autocommit

pub still_outside : (a b : State) → Fails a b → a.in_transaction ≡ false → b.in_transaction ≡ false
still_outside a b (inl same) was = same.0.mode ∙ was
still_outside a b (inr back) was = back.autocommit

module _ {C : Type 0} {these : Tables C} where
  pub begun : {after : C → C} {refused : C → Type 0} {old first last new : State}
      {r q : Result (Unit {0}) Fault} → (HasCleanDisk first → Begins {X = Unit {0}} {E = Fault} old first (Ok tt))
      → Survives old first (λ _. ⊥) → Part these (Has these) after refused first last r
      → (HasCleanDisk new → Concludes r last new q) → (HasCleanDisk new → EndsFor r last new q)
      → Survives last new (LeavesAnswered r last) → Whole these after refused old new q
  begun {after = after} {refused = refused} {old = old} {first = first} {last = last} {new = new} {r = r} {q = q}
      begins started part concludes ends_for closing =
      let late : HasCleanDisk new → HasCleanDisk last = λ clean. omega (arith, closing.clean) in
      let early : HasCleanDisk new → HasCleanDisk first = λ clean. omega (arith, closing.clean, part.survives.clean) in
      record {
        ends = λ clean. ends these (Has these) (λ _ _. Unit {0}) after old first last new r q (begins (early clean))
            (part.makes (late clean)) (concludes clean);
        outside = λ clean was. concluded r q last new (concludes clean);
        cause = λ clean was. stops_for these (Has these) (λ _ _. Unit {0}) after refused (Waits (Has these) first) old first last new started
            part.survives (early clean) (late clean) closing.counts r q (begins (early clean)) (part.makes (late clean))
            (part.fault (late clean)) (concludes clean) (ends_for clean);
        kept = λ clean. concludes_before old first last new r q (begins (early clean)) (part.stays (late clean))
            (concludes clean);
        survives = left these (Has these) (λ _ _. Unit {0}) after old first last new r begins part.makes started part.survives closing;
      }

  -- a call that fails leaves tables as they are
  pub rests_still : (c : C) (a b : State) → Fails a b → IsTrue b.is_open
      → IsTrue a.is_open × (Rests (Has these c) a → Rests (Has these c) b)
  rests_still c a b (inl same) still = (
    same.0.was_open,
    λ rests. record {
      autocommit = same.0.mode ∙ rests.autocommit;
      now = subst (Has these c) (sym same.0.now_is) rests.now;
      committed = subst (Has these c) (sym same.0.committed_is) rests.committed;
    },
  )
  rests_still c a b (inr back) still =
      let u = back.undone still in (
        back.was_open still,
        λ rests. record {
          autocommit = back.autocommit;
          now = subst (Has these c) (sym u.0) rests.committed;
          committed = subst (Has these c) (sym u.1) rests.committed;
        },
      )

  pub not_begun : {after : C → C} {refused : C → Type 0} {old new : State} {f : Fault}
      → (HasCleanDisk new → Begins {X = Unit {0}} {E = Fault} old new (Err f))
      → (HasCleanDisk new → FailsWhere {X = Unit {0}} (λ s. s.in_transaction ≡ false) old new (Err f))
      → Survives old new (λ _. ⊥) → Whole these after refused old new (Err f)
  not_begun {after = after} {refused = refused} {old = old} {new = new} {f = f} begins fault survives = record {
    ends = λ clean still. (
      (rests_still (after these.none) old new (begins clean) still).0,
      λ c rests. (rests_still c old new (begins clean) still).1 rests,
    );
    outside = λ clean was. still_outside old new (begins clean) was;
    cause = λ clean was c rests. cause_of (refused c) old new f (fault clean was);
    kept = λ clean. fails_before old new (begins clean);
    survives = survives_weaker old new (λ _. ⊥) _ (λ clean trees h. absurd h) survives;
  }

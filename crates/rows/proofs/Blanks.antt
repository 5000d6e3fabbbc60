-- Making tables in a database without any.
use Rattle.std.proofs.Common.{Err, Ok, Result, arith, refl}
use Rattle.std.proofs.lemmas.Result.{IfErr-weaker}
use Rattle.sqlite.specs.Effect.{Database}
use Rattle.sqlite.specs.State.{HasCleanDisk, State, Survives}
use Rattle.sqlite.proofs.StateLemmas.{survives_weaker}
use Rattle.store_sql.specs.declared.table_fault.Fault.{Fault}
use Rattle.store_sql.specs.Calls.{Begins, IsBare, Stays, WaitsAt}
use Rattle.store_sql.specs.Faults.{HasCause}
use Rattle.store_sql.specs.Schema.{no_schema}
use Rattle.store_sql.proofs.Staying.{stays_then}
use Rattle.rows.specs.Tables.{Tables}
use Rattle.rows.specs.Calls.{Completes, RefusedFor, Steps}
use Rattle.rows.specs.Creating.{EndsOnBlank, FailsOnBlank, LeavesOnBlank}
use Rattle.rows.specs.Statements.{Wrote}
use Rattle.rows.specs.Transactions.{Concludes, EndsFor, Has, LeavesAnswered, Part, Waits}
use Rattle.rows.proofs.Causes.{cause_of, fails_then, stops_for}
use Rattle.rows.proofs.Steps.{Leads, answers_then, ends, goes, left, waits_then}
use Rattle.rows.proofs.TransactionParts.{written}

-- the database has no table
abbrev pub Bare : Unit {0} → Database → Type 0
Bare _ db = IsBare no_schema db

bare_waits : (a b : State) → Survives a b (WaitsAt no_schema a) → Survives a b (Waits Bare a)
bare_waits a b one = survives_weaker a b (WaitsAt no_schema a) (Waits Bare a) (λ clean trees h x bare. h bare.0) one

module _ {C : Type 0} (these : Tables C) where
  -- a database without tables, in which these are made
  bare_leads : (a b : State) → (IsBare no_schema a.now → Steps these a b these.none)
      → Leads these Bare (Has these) (λ _. these.none) a b
  bare_leads a b made x bare = let s = goes a b these.none (made bare) in (these.none, s, s.means)

  -- the tables are made, and a row is written
  pub made : {with_row : C → C} {refused : C → Type 0} (old mid new : State) (r : Result (Unit {0}) Fault)
      → (HasCleanDisk mid → Completes these {X = Unit {0}} {E = Fault} no_schema old mid (Ok tt))
      → (HasCleanDisk mid → Stays {X = Unit {0}} {E = Fault} old mid (Ok tt))
      → Survives old mid (WaitsAt no_schema old)
      → Wrote these with_row (RefusedFor these refused) mid new r
      → Part these Bare (λ _. with_row these.none) (λ _. refused these.none) old new r
  made {with_row = with_row} {refused = refused} old mid new r completes stays started wrote =
      let rest = written wrote in
      let still : HasCleanDisk new → HasCleanDisk mid = λ clean. omega (arith, rest.survives.clean) in
      record {
        makes = λ clean. answers_then Bare (λ _ _. Unit {0}) (λ _. with_row these.none) (Has these) (λ _ _. Unit {0})
            (λ x. with_row x) (λ _. these.none) old mid new r (bare_leads old mid (completes (still clean)))
            (rest.makes clean) (λ _ _ _. tt) (λ _. refl);
        fault = λ clean. fails_then Bare (Has these) refused (λ _. refused these.none) (λ _. these.none)
            (WaitsAt no_schema old) old mid new r (bare_leads old mid (completes (still clean))) (λ x bare why. why)
            started (still clean) rest.survives.counts (rest.fault clean);
        stays = λ clean. stays_then {X = Unit {0}} old mid new tt r (stays (still clean)) (rest.stays clean);
        survives = waits_then Bare (Has these) (λ _. these.none) old mid new (λ clean. bare_leads old mid (completes clean))
            (bare_waits old mid started) rest.survives;
      }

  -- the tables are not made
  pub unmade : (c : C) (refused : Type 0) (old new : State) (f : Fault)
      → (HasCleanDisk new → Completes these {X = Unit {0}} no_schema old new (Err f))
      → (HasCleanDisk new → IsBare no_schema old.now → HasCause old new f)
      → (HasCleanDisk new → Stays {X = Unit {0}} old new (Err f)) → Survives old new (WaitsAt no_schema old)
      → Part these {X = Unit {0}} Bare (λ _. c) (λ _. refused) old new (Err f)
  unmade c refused old new f completes fault stays survives = record {
    makes = λ clean x bare inside. completes clean bare inside;
    fault = λ clean x bare. cause_of refused old new f (fault clean bare);
    stays = stays;
    survives = bare_waits old new survives;
  }

  -- the whole of it, in a transaction of its own
  module _ (c : C) (refused : Type 0) (old first last new : State) (r q : Result (Unit {0}) Fault)
      (begins : HasCleanDisk first → Begins {X = Unit {0}} {E = Fault} old first (Ok tt))
      (started : Survives old first (λ _. ⊥)) (part : Part these Bare (λ _. c) (λ _. refused) first last r)
      (concludes : HasCleanDisk new → Concludes r last new q) (ends_for : HasCleanDisk new → EndsFor r last new q)
      (closing : Survives last new (LeavesAnswered r last)) where
    late : HasCleanDisk new → HasCleanDisk last
    late clean = omega (arith, closing.clean)

    early : HasCleanDisk new → HasCleanDisk first
    early clean = omega (arith, part.survives.clean, late clean)

    pub blank_ends : HasCleanDisk new → EndsOnBlank these c old new q
    blank_ends clean = ends these Bare (λ _ _. Unit {0}) (λ (_ : Unit {0}). c) old first last new r q
        (begins (early clean)) (part.makes (late clean)) (concludes clean)

    pub blank_fails : HasCleanDisk new → FailsOnBlank refused old new q
    blank_fails clean rests = IfErr-weaker q _ _ (λ f stops. stops tt (λ _. rests)) (stops_for these Bare
        (λ _ _. Unit {0}) (λ (_ : Unit {0}). c) (λ _. refused) (Waits Bare first) old first last new started
        part.survives (early clean) (late clean) closing.counts r q (begins (early clean)) (part.makes (late clean))
        (part.fault (late clean)) (concludes clean) (ends_for clean))

    pub blank_left : Survives old new (LeavesOnBlank these c old)
    blank_left = left these Bare (λ _ _. Unit {0}) (λ (_ : Unit {0}). c) old first last new r begins part.makes started
        part.survives closing

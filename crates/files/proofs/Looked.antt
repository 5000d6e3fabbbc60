-- Why preparing a statement, as a test of a connection, fails.
use Rattle.std.proofs.Common.{List, [], ℕ, codes, inl, inr, leb-true, refl, sym, subst}
use Rattle.sqlite_trees.specs.declared.error.StoreError.TheVariants.{OutOfMemory, Io, Corrupt, Full, Broken, Unstorable}
use Rattle.sqlite.specs.declared.error.Error.{Error}
use Rattle.sqlite.specs.State.{State, Fails, IsNoStatement}
use Rattle.store_sql.proofs.Words.{Commit, IsNotRun, IsPlain, Schema, everything, understood}
use Rattle.store_sql.proofs.FaultLemmas.{IsWhole}
use Rattle.store_sql.proofs.Texts.{statement}
use Rattle.files.specs.Ending.{Excuses}

-- the statement that is prepared to test a connection
abbrev look_text : List ℕ
look_text = codes "COMMIT"

-- it is one statement without parameters, whatever the tables are
is_whole : (schema : Schema)
    → IsPlain (understood schema look_text) × IsWhole look_text 0 (understood schema look_text)
unfolding everything
is_whole schema = let all = statement schema look_text Commit 0 refl refl in (all.1, all.2)

-- thus it is not refused
not_refused : (s : State) (e : Error) → IsNoStatement s look_text [] e → ⊥
not_refused s e (inl fault) = subst (IsWhole look_text 0) fault.1 (is_whole s.now.schema).1
not_refused s e (inr found) =
    let fits = subst (IsWhole look_text 0) found.1 (is_whole s.now.schema).1 in
    let bare = subst IsPlain found.1 (is_whole s.now.schema).0 in
    elim found.2 [
      | inl long ↦ long.0 (leb-true _ _ fits.0)
      | inr other ↦ elim other [ inl given ↦ given.0 (sym fits.1) | inr clock ↦ clock.0 bare.1 ]
    ]

-- a failure has its cause
fails_for : (old new : State) (e : Error) → Fails old new ⊥ e → Excuses old new.faults e
fails_for old new e (OutOfMemory, is, cause, back, tells) = inl is
fails_for old new e (Io, is, cause, back, tells) = inr (inr cause)
fails_for old new e (Corrupt, is, cause, back, tells) = inr (inr cause)
fails_for old new e (Full, is, cause, back, tells) = inr (inr cause)
fails_for old new e (Broken, is, cause, back, tells) = inr (inl cause)
fails_for old new e (Unstorable, is, cause, back, tells) = absurd cause

pub look_fails : (old new : State) (e : Error) → IsNotRun old new look_text [] e → Excuses old new.faults e
unfolding IsNotRun
look_fails old new e (inl none) = absurd (not_refused old e none.0)
look_fails old new e (inr h) = fails_for old new e h

-- Why a query or a write fails.
use Rattle.rows.proofs.Words.{Begin, Command, Commit, CompileError, Compiled, Damaged, Device, Does, Err, Error}
use Rattle.rows.proofs.Words.{Executes, ExecutesIn, Fails, FailsBy, Fault, HasCause, HasCauseOr, HasFailed, IfErr, IfOk}
use Rattle.rows.proofs.Words.{IsMisplaced, IsPlain, List, Means, NoMemory, None, Ok, Option, RefusedFor, Release}
use Rattle.rows.proofs.Words.{Result, Rollback, RollbackTo, Row, Some, State, ap, append-nil, command, command_of}
use Rattle.rows.proofs.Words.{false, fault_of, if◌then◌else◌, inl, inr, is_out_of_memory, is_pragma, is_query, length}
use Rattle.rows.proofs.Words.{mode_of, refl, statement_of, subst, sym, text_of, true, understood, ℕ, ◌||◌, ◌∙◌, ◌≡◌}
use Rattle.rows.proofs.Words.{◌⊎◌}
use Rattle.sqlite_trees.specs.declared.error.StoreError.TheVariants.{OutOfMemory, Io, Corrupt, Full, Broken, Unstorable}
use Rattle.store_sql.proofs.FaultLemmas.{IsWhole, not_run}
use Rattle.store_sql.proofs.Statements.{mode}
use Rattle.rows.specs.Tables.{Tables}

-- the cause of a failure of the database
failing : (old new : State) (too_big : Type 0) (e : Error) → Fails old new too_big e → too_big
    ⊎ HasCause old new (fault_of e)
failing old new too_big e (OutOfMemory, is, cause, back, tells) = inr (rw is tt)
failing old new too_big e (Io, is, cause, back, tells) = inr (rw is (inl cause))
failing old new too_big e (Corrupt, is, cause, back, tells) = inr (rw is (inl cause))
failing old new too_big e (Full, is, cause, back, tells) = inr (rw is (inl cause))
failing old new too_big e (Broken, is, cause, back, tells) = inr (rw is (inr (inl cause)))
failing old new too_big e (Unstorable, is, cause, back, tells) = inl cause

module _ {C : Type 0} (these : Tables C) where
  -- the rules of the tables refuse the statement, for example because a key is taken, or one of its rows is too big
  abbrev pub IsRefused : List ℕ → Row → State → Type 0
  IsRefused sql params s = IfOk (understood these.whole sql) (λ c. (stop : Option Error)
      × Does s.step_limit (mode_of s) params s.now (text_of sql c) None c.command (Err stop))

  -- the cause of each fault of a write on tables with contents
  abbrev pub HasWriteCause : List ℕ → Row → State → State → Fault → Type 0
  HasWriteCause sql params old new NoMemory = Unit {0}
  HasWriteCause sql params old new Device = HasFailed old new ⊎ IsRefused sql params old
  HasWriteCause sql params old new Damaged = ⊥

  -- the text is one statement with this number of parameters, and means this command
  abbrev pub IsStatement : List ℕ → Command → ℕ → Type 0
  IsStatement sql command count = (command_of (understood these.whole sql) ≡ command) × IsPlain (understood these.whole sql)
      × IsWhole sql count (understood these.whole sql)

  -- a cause of any call's fault is a cause of a write's
  write_cause : (sql : List ℕ) (params : Row) (old new : State) (f : Fault) → HasCause old new f
      → HasWriteCause sql params old new f
  write_cause sql params old new NoMemory h = tt
  write_cause sql params old new Device h = inl h
  write_cause sql params old new Damaged h = h

  -- the fault of a refusal
  refused_is : (sql : List ℕ) (params : Row) (old new : State) (e : Error) → IsRefused sql params old
      → HasWriteCause sql params old new (fault_of e)
  refused_is sql params old new e h = elim (is_out_of_memory e) as
      (λ b. HasWriteCause sql params old new (if b then NoMemory else Device)) [ true ↦ tt | false ↦ inr h ]

  -- why a write fails
  module _ (sql : List ℕ) (params : Row) (command : Command) (is : command_of (understood these.whole sql) ≡ command)
      (plain : IsPlain (understood these.whole sql)) (one : IsWhole sql (length params) (understood these.whole sql))
      (shows : (is_query command || (is_pragma command || false)) ≡ false)
      (ends : (command ≡ Begin) ⊎ ((command ≡ Commit) ⊎ (command ≡ Rollback)) → ⊥)
      (saves : (name : List ℕ) → (command ≡ Release name) ⊎ (command ≡ RollbackTo name) → ⊥) where
    never_misplaced : (s : State) (e : Error) → IsMisplaced s command e → ⊥
    never_misplaced s e (inl (_, inl (k, _))) = ends (inl k)
    never_misplaced s e (inl (_, inr (k, _))) = ends (inr k)
    never_misplaced s e (inr it) = saves it.1 it.2

    pub write_faults : (old new : State) (r : Result ℕ Error) → Executes sql params old new r
        → IfErr r (λ e. (c : C) → Means these old.now c → HasWriteCause sql params old new (fault_of e))
    unfolding ExecutesIn
    write_faults old new (Ok n) h = tt
    write_faults old new (Err e) (inl h) = λ c means.
        let known = sym (ap (λ s. understood s sql) means.schema) in
        write_cause sql params old new (fault_of e)
        (not_run sql params old new (subst IsPlain known plain) (subst (IsWhole sql (length params)) known one) e h)
    write_faults old new (Err e) (inr h) = λ c means.
        let known = sym (ap (λ s. understood s sql) means.schema) ∙ h.1.is in
        let bare = subst IsPlain known plain in
        let said = λ (stop : Option Error)
        (did : Does old.step_limit (mode_of old) params old.now (text_of sql h.0) None h.0.command (Err stop)).
        refused_is sql params old new e (subst (λ r. IfOk r (λ c. (stop : Option Error)
        × Does old.step_limit (mode_of old) params old.now (text_of sql c) None c.command (Err stop))) (sym known)
        (stop, did)) in
        let ran = rw (bare.0, bare.1, append-nil params) at h.2 in
        let same : h.0.command ≡ command = ap command_of (sym known) ∙ is in
        let plainly : (is_query h.0.command || (is_pragma h.0.command || false)) ≡ false = rw same shows in
        elim (rw plainly at ran) [
          | inl refused ↦ elim refused.0 [
            | inl m ↦ absurd (never_misplaced old e (subst (λ k. IsMisplaced old k e) same m))
            | inr w ↦ said (Some e) w.1
          ]
          | inr wrong ↦ elim (failing old new _ e wrong)
              [ inl big ↦ said None big | inr cause ↦ write_cause sql params old new (fault_of e) cause ]
        ]

  -- ---- why a row is not written

  -- a statement without a limit on its steps that is refused stops
  abbrev pub Stops : List ℕ → Row → Command → State → Type 0
  Stops sql params command s = (stop : Option Error)
      × Does None mode params s.now (statement_of sql (understood these.whole sql)) None command (Err stop)

  module _ (sql : List ℕ) (params : Row) (command : Command) (is : command_of (understood these.whole sql) ≡ command)
      (one : IsWhole sql (length params) (understood these.whole sql)) where
    stops : (s : State) → s.step_limit ≡ None → IsRefused sql params s → Stops sql params command s
    stops s unlimited h = go (understood these.whole sql) is one h
      where
        go : (u : Result Compiled CompileError) → command_of u ≡ command → IsWhole sql (length params) u
            → IfOk u (λ k. (stop : Option Error)
            × Does s.step_limit mode params s.now (text_of sql k) None k.command (Err stop))
            → (stop : Option Error) × Does None mode params s.now (statement_of sql u) None command (Err stop)
        go (Ok k) is one h = (
          h.0,
          subst (λ m. Does None mode params s.now (text_of sql k) None m (Err h.0)) is
              (subst (λ limit. Does limit mode params s.now (text_of sql k) None k.command (Err h.0)) unlimited h.1),
        )
        go (Err e) is one h = absurd one

    -- the reason that it stops is the reason that it is refused
    module _ (Refuses : C → Type 0)
        (refuses : (s : State) (c : C) → Means these s.now c → Stops sql params command s → Refuses c) where
      cause : (old new : State) (c : C) (f : Fault) → Means these old.now c → HasWriteCause sql params old new f
          → HasCauseOr (Refuses c) old new f
      cause old new c NoMemory means h = tt
      cause old new c Device means (inl failed) = inl failed
      cause old new c Device means (inr refused) = go old.step_limit refl
        where
          go : (limit : Option ℕ) → old.step_limit ≡ limit → HasCauseOr (Refuses c) old new Device
          go None unlimited = inr (refuses old c means (stops old unlimited refused))
          go (Some n) limited = inl (inr (inr (subst Rattle.std.specs.Prelude.IsSome (sym limited) refl)))
      cause old new c Damaged means h = h

      -- each fault of the write has its cause
      pub refused_for : {X : Type 0} (old new : State) (r : Result X Fault) → FailsBy these (HasWriteCause sql params) old new r
          → RefusedFor these Refuses old new r
      refused_for old new (Ok x) h = tt
      refused_for old new (Err f) h = λ c means. cause old new c f means (h c means)

-- Why a query or a write fails.
use Rattle.store_sql.proofs.Words.{Begin, Command, Commit, CompileError, Compiled, Contents, Damaged, Database, Device}
use Rattle.store_sql.proofs.Words.{Does, Err, Error, Executes, ExecutesIn, Fails, FailsBy, FailsToQuery, Fault, Global}
use Rattle.store_sql.proofs.Words.{HasCause, HasCauseOr, HasFailed, IfErr, IfOk, IsMisplaced, IsNotRun, IsPlain, List}
use Rattle.store_sql.proofs.Words.{Means, NoMemory, None, Ok, Option, ProgramOverflows, Query, RefusedFor, Release}
use Rattle.store_sql.proofs.Words.{Result, Rollback, RollbackTo, Row, Schema, Select, Some, State, Trees, Vec, []}
use Rattle.store_sql.proofs.Words.{accepts_program, ap, append-nil, command_of, false, fault_of, if◌then◌else◌, inl}
use Rattle.store_sql.proofs.Words.{inr, is_out_of_memory, is_pragma, is_query, leb-true, length, mode_of, nat_le}
use Rattle.store_sql.proofs.Words.{reads_listing, refl, statement_of, subst, subst₂, sym, text_of, true, understood}
use Rattle.store_sql.proofs.Words.{whole, ℕ, ◌||◌, ◌∙◌, ◌≡◌, ◌⊎◌}
use Rattle.std.proofs.Common.{Any}
use Rattle.sqlite_trees.specs.declared.error.StoreError.TheVariants.{OutOfMemory, Io, Corrupt, Full, Broken, Unstorable}
use Rattle.sqlite.specs.Listing.{IsSourceOf}
use Rattle.sqlite.specs.Effect.{RefusesToRead}
use Rattle.store_sql.proofs.Statements.{mode}

-- the rules of the tables refuse the statement, for example a key that is taken, or one of its rows is too big
abbrev pub IsRefused : List ℕ → Row → State → Type 0
IsRefused sql params s = IfOk (understood whole sql) (λ c. (stop : Option Error)
    × Does s.step_limit (mode_of s) params s.now (text_of sql c) None c.command (Err stop))

-- the cause of each fault of a write on tables with contents
abbrev pub HasWriteCause : List ℕ → Row → State → State → Fault → Type 0
HasWriteCause sql params old new NoMemory = Unit {0}
HasWriteCause sql params old new Device = HasFailed old new ⊎ IsRefused sql params old
HasWriteCause sql params old new Damaged = ⊥

-- the text is one statement with this many parameters
abbrev pub IsWhole : List ℕ → ℕ → Result Compiled CompileError → Type 0
IsWhole sql count (Ok c) = (nat_le (length sql) c.tail ≡ true) × (length c.names ≡ count)
IsWhole sql count (Err e) = ⊥

-- the text is one statement with this many parameters, and this meaning
abbrev pub IsStatement : List ℕ → Command → ℕ → Type 0
IsStatement sql command count = (command_of (understood whole sql) ≡ command) × IsPlain (understood whole sql)
    × IsWhole sql count (understood whole sql)

-- the cause of a failure of the database
failing : (old new : State) (too_big : Type 0) (e : Error) → Fails old new too_big e → too_big
    ⊎ HasCause old new (fault_of e)
failing old new too_big e (OutOfMemory, is, cause, back, tells) = inr (rw is tt)
failing old new too_big e (Io, is, cause, back, tells) = inr (rw is (inl cause))
failing old new too_big e (Corrupt, is, cause, back, tells) = inr (rw is (inl cause))
failing old new too_big e (Full, is, cause, back, tells) = inr (rw is (inl cause))
failing old new too_big e (Broken, is, cause, back, tells) = inr (rw is (inr (inl cause)))
failing old new too_big e (Unstorable, is, cause, back, tells) = inl cause

-- that cause, if no row is too big
pub failed : (old new : State) (too_big : Type 0) (e : Error) → (too_big → ⊥) → Fails old new too_big e
    → HasCause old new (fault_of e)
failed old new too_big e none h = elim (failing old new too_big e h) [ inl big ↦ absurd (none big) | inr cause ↦ cause ]

-- a text that is one plain statement with its parameters is not refused before it runs
pub not_run : (sql : List ℕ) (params : Row) (old new : State) → IsPlain (understood old.now.schema sql)
    → IsWhole sql (length params) (understood old.now.schema sql)
    → (e : Error) → IsNotRun old new sql params e → HasCause old new (fault_of e)
unfolding IsNotRun
not_run sql params old new plain one e (inr h) = failed old new ⊥ e (λ b. b) h
not_run sql params old new plain one e (inl (inl fault, same)) = absurd
    (subst (IsWhole sql (length params)) fault.1 one)
not_run sql params old new plain one e (inl (inr found, same)) =
    let fits = subst (IsWhole sql (length params)) found.1 one in
    let bare = subst IsPlain found.1 plain in
    absurd (elim found.2 [
      | inl long ↦ long.0 (leb-true _ _ fits.0)
      | inr other ↦ elim other [ inl given ↦ given.0 (sym fits.1) | inr clock ↦ clock.0 bare.1 ]
    ])

pub none_overflows : (rows : List Row) → Any (λ r. ⊥) rows → ⊥
none_overflows rows h = h.4

module _ {A : Type 0} (schema : Schema) (Has : A → Database → Type 0)
    (same : (a : A) (db : Database) → Has a db → db.schema ≡ schema) (sql : List ℕ) (params : Row) (query : Query)
    (names : List (List ℕ))
    (is : command_of (understood schema sql) ≡ Select (record { lets = []; body = query }) names)
    (plain : IsPlain (understood schema sql)) (unlisted : reads_listing schema sql ≡ false)
    (one : IsWhole sql (length params) (understood schema sql)) (typed : accepts_program schema [] query params ≡ true)
    (sure : (trees : Trees) → ProgramOverflows trees params [] [] query → ⊥) where
  query_fault : (old new : State) (e : Error) (a : A) → Has a old.now → FailsToQuery sql params old new e
      → HasCause old new (fault_of e)
  unfolding FailsToQuery
  query_fault old new e a has (inl h) =
      let known = sym (ap (λ s. understood s sql) (same a old.now has)) in
      not_run sql params old new (subst IsPlain known plain) (subst (IsWhole sql (length params)) known one) e h
  query_fault old new e a has (inr h) =
      let known = sym (ap (λ s. understood s sql) (same a old.now has)) ∙ h.1.is in
      let bare = subst IsPlain known plain in
      let shown = rw (bare.0, bare.1, append-nil params) at h.2 in
      let db : shown.0 ≡ old.now = subst (λ b. IsSourceOf b old.now shown.0)
      (ap (λ s. reads_listing s sql) (same a old.now has) ∙ unlisted) shown.1 in
      let refused = subst₂ (λ k d. RefusesToRead old.step_limit k d params e) (ap command_of (sym known) ∙ is) db
      shown.2 in
      elim refused [
        | inl mismatch ↦ absurd (let wrong : true ≡ false = sym typed
            ∙ ap (λ s. accepts_program s [] query params) (sym (same a old.now has)) ∙ mismatch.1 in cc)
        | inr other ↦ elim other [
          | inl over ↦ absurd (sure old.now.trees over.1)
          | inr interrupted ↦ rw interrupted.0 (inr (inr interrupted.1))
        ]
      ]

  -- each failure of the query has its cause
  pub faults : (old new : State) (r : Result (Vec Row Global) Error) → IfErr r (FailsToQuery sql params old new)
      → IfErr r (λ e. (a : A) → Has a old.now → HasCause old new (fault_of e))
  faults old new (Ok rows) err = tt
  faults old new (Err e) err = λ a has. query_fault old new e a has err

-- a cause for any call is one for a write
write_cause : (sql : List ℕ) (params : Row) (old new : State) (f : Fault) → HasCause old new f
    → HasWriteCause sql params old new f
write_cause sql params old new NoMemory h = tt
write_cause sql params old new Device h = inl h
write_cause sql params old new Damaged h = h

-- the fault of a refusal
refused_is : (sql : List ℕ) (params : Row) (old new : State) (e : Error) → IsRefused sql params old
    → HasWriteCause sql params old new (fault_of e)
refused_is sql params old new e h = elim (is_out_of_memory e) as
    (λ b. HasWriteCause sql params old new (if b then NoMemory else Device)) [ true ↦ tt | false ↦ inr h ]

-- why a write fails
module _ (sql : List ℕ) (params : Row) (command : Command) (is : command_of (understood whole sql) ≡ command)
    (plain : IsPlain (understood whole sql)) (one : IsWhole sql (length params) (understood whole sql))
    (shows : (is_query command || (is_pragma command || false)) ≡ false)
    (ends : (command ≡ Begin) ⊎ ((command ≡ Commit) ⊎ (command ≡ Rollback)) → ⊥)
    (saves : (name : List ℕ) → (command ≡ Release name) ⊎ (command ≡ RollbackTo name) → ⊥) where
  never_misplaced : (s : State) (e : Error) → IsMisplaced s command e → ⊥
  never_misplaced s e (inl (_, inl (k, _))) = ends (inl k)
  never_misplaced s e (inl (_, inr (k, _))) = ends (inr k)
  never_misplaced s e (inr it) = saves it.1 it.2

  pub write_faults : (old new : State) (r : Result ℕ Error) → Executes sql params old new r
      → IfErr r (λ e. (c : Contents) → Means old.now c → HasWriteCause sql params old new (fault_of e))
  unfolding ExecutesIn
  write_faults old new (Ok n) h = tt
  write_faults old new (Err e) (inl h) = λ c means.
      let known = sym (ap (λ s. understood s sql) means.schema) in
      write_cause sql params old new (fault_of e)
      (not_run sql params old new (subst IsPlain known plain) (subst (IsWhole sql (length params)) known one) e h)
  write_faults old new (Err e) (inr h) = λ c means.
      let known = sym (ap (λ s. understood s sql) means.schema) ∙ h.1.is in
      let bare = subst IsPlain known plain in
      let said = λ (stop : Option Error)
      (did : Does old.step_limit (mode_of old) params old.now (text_of sql h.0) None h.0.command (Err stop)).
      refused_is sql params old new e (subst (λ r. IfOk r (λ c. (stop : Option Error)
      × Does old.step_limit (mode_of old) params old.now (text_of sql c) None c.command (Err stop))) (sym known)
      (stop, did)) in
      let ran = rw (bare.0, bare.1, append-nil params) at h.2 in
      let same : h.0.command ≡ command = ap command_of (sym known) ∙ is in
      let plainly : (is_query h.0.command || (is_pragma h.0.command || false)) ≡ false = rw same shows in
      elim (rw plainly at ran) [
        | inl refused ↦ elim refused.0 [
          | inl m ↦ absurd (never_misplaced old e (subst (λ k. IsMisplaced old k e) same m))
          | inr w ↦ said (Some e) w.1
        ]
        | inr wrong ↦ elim (failing old new _ e wrong)
            [ inl big ↦ said None big | inr cause ↦ write_cause sql params old new (fault_of e) cause ]
      ]

-- ---- why a row is not written

-- the statement stops, without a limit on its steps
abbrev pub Stops : List ℕ → Row → Command → State → Type 0
Stops sql params command s = (stop : Option Error)
    × Does None mode params s.now (statement_of sql (understood whole sql)) None command (Err stop)

module _ (sql : List ℕ) (params : Row) (command : Command) (is : command_of (understood whole sql) ≡ command)
    (one : IsWhole sql (length params) (understood whole sql)) where
  stops : (s : State) → s.step_limit ≡ None → IsRefused sql params s → Stops sql params command s
  stops s unlimited h = go (understood whole sql) is one h
    where
      go : (u : Result Compiled CompileError) → command_of u ≡ command → IsWhole sql (length params) u
          → IfOk u (λ k. (stop : Option Error)
          × Does s.step_limit mode params s.now (text_of sql k) None k.command (Err stop))
          → (stop : Option Error) × Does None mode params s.now (statement_of sql u) None command (Err stop)
      go (Ok k) is one h = (
        h.0,
        subst (λ m. Does None mode params s.now (text_of sql k) None m (Err h.0)) is
            (subst (λ limit. Does limit mode params s.now (text_of sql k) None k.command (Err h.0)) unlimited h.1),
      )
      go (Err e) is one h = absurd one

  -- the reason for the stop is that for the refusal
  module _ (Refuses : Contents → Type 0)
      (refuses : (s : State) (c : Contents) → Means s.now c → Stops sql params command s → Refuses c) where
    cause : (old new : State) (c : Contents) (f : Fault) → Means old.now c → HasWriteCause sql params old new f
        → HasCauseOr (Refuses c) old new f
    cause old new c NoMemory means h = tt
    cause old new c Device means (inl failed) = inl failed
    cause old new c Device means (inr refused) = go old.step_limit refl
      where
        go : (limit : Option ℕ) → old.step_limit ≡ limit → HasCauseOr (Refuses c) old new Device
        go None unlimited = inr (refuses old c means (stops old unlimited refused))
        go (Some n) limited = inl (inr (inr (subst Rattle.std.specs.Prelude.IsSome (sym limited) refl)))
    cause old new c Damaged means h = h

    -- each fault of the write has its cause
    pub refused_for : {X : Type 0} (old new : State) (r : Result X Fault) → FailsBy (HasWriteCause sql params) old new r
        → RefusedFor Refuses old new r
    refused_for old new (Ok x) h = tt
    refused_for old new (Err f) h = λ c means. cause old new c f means (h c means)

-- BEGIN, COMMIT and ROLLBACK.
use Rattle.store_sql.proofs.Words.{Begin, Begins, Command, Commit, Commits, CommitsBy, Does, Err, Error, Executes}
use Rattle.store_sql.proofs.Words.{ExecutesIn, Fails, HasCause, IfErr, IsMisplaced, IsNotRun, IsPlain, IsRolledBack}
use Rattle.store_sql.proofs.Words.{IsSome, IsTrue, IsUnchanged, IsWrite, List, MayCommit, None, Ok, Option, Result}
use Rattle.store_sql.proofs.Words.{Returning, Rollback, Row, Schema, Some, State, Trees, [], ap, append-nil, codes}
use Rattle.store_sql.proofs.Words.{command_of, everything, false, fault_of, inl, inr, is_pragma, is_query, is_some}
use Rattle.store_sql.proofs.Words.{leb-true, mode_of, not, refl, runs_as, statement_of, subst, subst₂, sym, text_of}
use Rattle.store_sql.proofs.Words.{timed, true, understood, ℕ, ◌&&◌, ◌||◌, ◌∙◌, ◌≡◌, ◌⊎◌}
use Rattle.std.specs.Prelude.{MatchBool}
use Rattle.sqlite.specs.declared.error.Error.TheVariants.{ExecuteReturnedResults}
use Rattle.store_sql.proofs.Statements.{stopped}
use Rattle.store_sql.proofs.FaultLemmas.{IsWhole, failed, not_run}
use Rattle.store_sql.proofs.Texts.{statement}

-- the text is that command, whatever the tables are
abbrev IsText : List ℕ → Command → Type 0
IsText sql command = (schema : Schema) → (command_of (understood schema sql) ≡ command)
    × IsPlain (understood schema sql) × IsWhole sql 0 (understood schema sql)

abbrev pub begin_text : List ℕ
begin_text = codes "BEGIN"

begin_is : IsText begin_text Begin
unfolding everything
begin_is schema = statement schema begin_text _ 0 refl refl

abbrev pub commit_text : List ℕ
commit_text = codes "COMMIT"

commit_is : IsText commit_text Commit
unfolding everything
commit_is schema = statement schema commit_text _ 0 refl refl

abbrev pub rollback_text : List ℕ
rollback_text = codes "ROLLBACK"

rollback_is : IsText rollback_text Rollback
unfolding everything
rollback_is schema = statement schema rollback_text _ 0 refl refl

pub begins : (old new : State) (r : Result ℕ Error) → Executes begin_text [] old new r → Begins old new r
begins old new (Err e) h = stopped begin_text [] old new e h
begins old new (Ok count) h = let ran = runs_as begin_text [] old new old.now.schema refl Begin (begin_is _).0
    (begin_is _).1 count h in (ran.0, ran.1)

pub commits : (old new : State) (r : Result ℕ Error) → Executes commit_text [] old new r → Commits old new r
commits old new (Err e) h = stopped commit_text [] old new e h
commits old new (Ok count) h = (runs_as commit_text [] old new old.now.schema refl Commit (commit_is _).0
    (commit_is _).1 count h).1

-- what a text may commit, from its command
module _ (sql : List ℕ) (params : Row) (s : State) (command : Command)
    (is : command_of (understood s.now.schema sql) ≡ command) (plain : IsPlain (understood s.now.schema sql)) where
  pub commits_at : (trees : Trees) → CommitsBy sql params s trees
      → MayCommit s None command (statement_of sql (understood s.now.schema sql)) params trees
  unfolding CommitsBy
  commits_at trees h =
      let known = sym h.1.is in
      let bare = subst IsPlain (sym known) plain in
      subst₂ (λ k t. MayCommit s None k t params trees) (ap command_of known ∙ is) (ap (statement_of sql) known)
      (rw (bare.0, bare.1, append-nil params) at h.2)

pub begin_never : (s : State) (trees : Trees) → CommitsBy begin_text [] s trees → ⊥
begin_never s trees h = go (commits_at begin_text [] s Begin (begin_is _).0 (begin_is _).1 trees h)
  where
    go : MayCommit s None Begin (statement_of begin_text (understood s.now.schema begin_text)) [] trees → ⊥
    go (inl (inl e, _)) = let f = e in cc
    go (inl (inr it, _)) = let f = it.2 in cc
    go (inr wrote) = let e = wrote.3 in cc

pub rollback_never : (s : State) (trees : Trees) → CommitsBy rollback_text [] s trees → ⊥
rollback_never s trees h = go (commits_at rollback_text [] s Rollback (rollback_is _).0 (rollback_is _).1 trees h)
  where
    go : MayCommit s None Rollback (statement_of rollback_text (understood s.now.schema rollback_text)) [] trees → ⊥
    go (inl (inl e, _)) = let f = e in cc
    go (inl (inr it, _)) = let f = it.2 in cc
    go (inr wrote) = let e = wrote.3 in cc

pub commit_leaves : (s : State) (trees : Trees) → CommitsBy commit_text [] s trees → trees ≡ s.now.trees
commit_leaves s trees h = go (commits_at commit_text [] s Commit (commit_is _).0 (commit_is _).1 trees h)
  where
    go : MayCommit s None Commit (statement_of commit_text (understood s.now.schema commit_text)) [] trees
        → trees ≡ s.now.trees
    go (inl h) = h.1
    go (inr wrote) = absurd (let e = wrote.3 in cc)

abbrev none_of : (A : Type 0) → Option A
none_of A = None

misplaced : (old : State) (e : Error) → IsTrue old.in_transaction → IsMisplaced old Rollback e → ⊥
misplaced old e inside (inl (_, inl (k, _))) = let f = k in cc
misplaced old e inside (inl (_, inr (_, out))) = let f : false ≡ true = subst IsTrue out inside in cc
misplaced old e inside (inr it) = elim it.2 [ inl k ↦ (let f = k in cc) | inr k ↦ (let f = k in cc) ]

pub rolls : (old new : State) (r : Result ℕ Error) → IsTrue old.in_transaction → Executes rollback_text [] old new r
    → IsRolledBack old new
unfolding ExecutesIn IsNotRun
rolls old new (Ok count) inside h =
    (runs_as rollback_text [] old new old.now.schema refl Rollback (rollback_is _).0 (rollback_is _).1 count h).1
rolls old new (Err e) inside (inl (inl (inl fault, same))) = absurd
    (subst (IsWhole rollback_text 0) fault.1 (rollback_is old.now.schema).2)
rolls old new (Err e) inside (inl (inl (inr found, same))) =
    let fits = subst (IsWhole rollback_text 0) found.1 (rollback_is old.now.schema).2 in
    let plain = subst IsPlain found.1 (rollback_is old.now.schema).1 in
    absurd (elim found.2 [
      | inl long ↦ long.0 (leb-true _ _ fits.0)
      | inr other ↦ elim other [ inl given ↦ given.0 (sym fits.1) | inr clock ↦ clock.0 plain.1 ]
    ])
rolls old new (Err e) inside (inl (inr broke)) = broke.3
rolls old new (Err e) inside (inr h) =
    let known = sym h.1.is in
    let plain = subst IsPlain (sym known) (rollback_is old.now.schema).1 in
    let p = timed [] h.0.formats h.1.now in
    let t = text_of rollback_text h.0 in
    let ran : ((IsMisplaced old Rollback e ⊎
    ((⊥ ⊎ IsSome (none_of Returning)) × Does old.step_limit (mode_of old) p old.now t None Rollback
    (Err (Some e)))) × IsUnchanged old new)
    ⊎ Fails old new (Does old.step_limit (mode_of old) p old.now t None Rollback (Err None)) e =
    subst₂ (λ k o. MatchBool (is_query k || (not false && (is_pragma k || is_some o)))
    ((◌≡◌ {A = Result ℕ Error} (Err e) (Err ExecuteReturnedResults)) × IsUnchanged old new)
    (((IsMisplaced old k e ⊎ ((IsWrite k ⊎ IsSome o)
    × Does old.step_limit (mode_of old) p old.now t o k (Err (Some e)))) × IsUnchanged old new)
    ⊎ Fails old new (Does old.step_limit (mode_of old) p old.now t o k (Err None)) e))
    (ap command_of known ∙ (rollback_is old.now.schema).0) plain.0 h.2 in
    elim ran [
      | inl refused ↦ absurd
          (elim refused.0 [
            | inl m ↦ misplaced old e inside m
            | inr w ↦ elim w.0 [ inl q ↦ q | inr q ↦ (let f : false ≡ true = q in cc) ]
          ])
      | inr broke ↦ broke.3
    ]

-- why a statement on the transaction fails, if it is in its place
module _ (sql : List ℕ) (command : Command) (is : IsText sql command)
    (shows : (is_query command || (is_pragma command || false)) ≡ false) (writes : IsWrite command → ⊥)
    (big : (old : State) (text : List ℕ) → Does old.step_limit (mode_of old) [] old.now text None command (Err None)
    → ⊥) where
  placed : (old new : State) (e : Error) → (IsMisplaced old command e → ⊥) → Executes sql [] old new (Err e)
      → HasCause old new (fault_of e)
  unfolding ExecutesIn
  placed old new e never (inl h) = not_run sql [] old new (is old.now.schema).1 (is old.now.schema).2 e h
  placed old new e never (inr h) =
      let known = sym h.1.is in
      let plain = subst IsPlain (sym known) (is old.now.schema).1 in
      let p = timed [] h.0.formats h.1.now in
      let t = text_of sql h.0 in
      let ran = subst₂ (λ k o. MatchBool (is_query k || (not false && (is_pragma k || is_some o)))
      ((◌≡◌ {A = Result ℕ Error} (Err e) (Err ExecuteReturnedResults)) × IsUnchanged old new)
      (((IsMisplaced old k e ⊎ ((IsWrite k ⊎ IsSome o)
      × Does old.step_limit (mode_of old) p old.now t o k (Err (Some e)))) × IsUnchanged old new)
      ⊎ Fails old new (Does old.step_limit (mode_of old) p old.now t o k (Err None)) e))
      (ap command_of known ∙ (is old.now.schema).0) plain.0 h.2 in
      elim (rw shows at ran) [
        | inl refused ↦ absurd (elim refused.0
            [ inl m ↦ never m | inr w ↦ elim w.0 [ inl q ↦ writes q | inr q ↦ (let f : false ≡ true = q in cc) ] ])
        | inr wrong ↦ failed old new _ e (big old t) (rw plain.1 at wrong)
      ]

pub begin_faults : (old new : State) (r : Result ℕ Error) → old.in_transaction ≡ false
    → Executes begin_text [] old new r → IfErr r (λ e. HasCause old new (fault_of e))
begin_faults old new (Ok n) outside h = tt
begin_faults old new (Err e) outside h = placed begin_text Begin begin_is refl (λ w. w)
    (λ s text out. let f = out in cc) old new e never h
  where
    never : IsMisplaced old Begin e → ⊥
    never (inl (_, inl (_, inside))) = let f : false ≡ true = sym outside ∙ inside in cc
    never (inl (_, inr (inl k, _))) = let f = k in cc
    never (inl (_, inr (inr k, _))) = let f = k in cc
    never (inr it) = elim it.2 [ inl k ↦ (let f = k in cc) | inr k ↦ (let f = k in cc) ]

pub commit_faults : (old new : State) (r : Result ℕ Error) → old.in_transaction ≡ true
    → Executes commit_text [] old new r → IfErr r (λ e. HasCause old new (fault_of e))
commit_faults old new (Ok n) inside h = tt
commit_faults old new (Err e) inside h = placed commit_text Commit commit_is refl (λ w. w)
    (λ s text out. let f = out in cc) old new e never h
  where
    never : IsMisplaced old Commit e → ⊥
    never (inl (_, inl (k, _))) = let f = k in cc
    never (inl (_, inr (_, outside))) = let f : true ≡ false = sym inside ∙ outside in cc
    never (inr it) = elim it.2 [ inl k ↦ (let f = k in cc) | inr k ↦ (let f = k in cc) ]

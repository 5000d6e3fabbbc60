-- What the calls do, from the meaning of their SQL texts.
use Rattle.rows.proofs.Words.{Begin, Changes, Command, Commit, CommitsBy, CommitsShowing, Compiled, Database, Delete}
use Rattle.rows.proofs.Words.{Does, Error, Executes, FailsBy, FailsToQuery, Fault, Finds, FindsOne, FindsSuch, Found}
use Rattle.rows.proofs.Words.{FoundIn, Global, HasCause, HasCleanDisk, IfErr, IfOk, Insert, InsertOr, IsDone}
use Rattle.rows.proofs.Words.{IsEachRead, IsFirstRead, IsOneOf, IsUnchanged, IsWrite, List, Means, None, Ok, OnOk}
use Rattle.rows.proofs.Words.{OnlyReads, Option, Release, Result, Rollback, RollbackTo, Row, Runs, Schema, Shown, State}
use Rattle.rows.proofs.Words.{Survives, Tally, Trees, Update, Vec, Writes, Wrote, ap, command_of, false, inl, inr}
use Rattle.rows.proofs.Words.{is_pragma, is_query, is_select, length, refl, statement_of, subst, sym, understood, ℕ}
use Rattle.rows.proofs.Words.{◌||◌, ◌∙◌, ◌≡◌, ◌⊎◌}
use Rattle.store_sql.proofs.Statements.{mode, survives_as}
use Rattle.store_sql.proofs.Commands.{closes}
use Rattle.store_sql.proofs.Forms.{ends_nowhere, is_compiled, query_everywhere}
use Rattle.store_sql.proofs.Staying.{stays_done}
use Rattle.store_sql.proofs.Queries.{answers_still, shown_never}
use Rattle.store_sql.proofs.CallLemmas.{FindIn, causes, found_all, found_fails, shown}
use Rattle.store_sql.proofs.FoundLemmas.{Shows, causes_first, done_as, fault_done, first_only, read_only}
use Rattle.rows.proofs.FoundLemmas.{changes, finds_such, leaves}
use Rattle.rows.proofs.FaultLemmas.{HasWriteCause, IsStatement, write_faults}
use Rattle.rows.specs.Tables.{Tables}

-- ---- writes

-- a statement on the rows of a table
abbrev pub IsOnRows : Command → Type 0
IsOnRows (Insert at from) = Unit {0}
IsOnRows (InsertOr at way from clauses) = Unit {0}
IsOnRows (Update at q) = Unit {0}
IsOnRows (Delete at q) = Unit {0}
IsOnRows _ = ⊥

module _ {C : Type 0} (these : Tables C) where
  -- a text that changes the contents to `after`
  pub record Write (sql : List ℕ) (params : Row) (after : C → C) : Type 0 where
    pub command : Command
    pub is : IsStatement these sql command (length params)
    pub on_rows : IsOnRows command
    pub does : (limit : Option ℕ) (db next : Database) (tally : Tally) (c : C) → Means these db c
        → Does limit mode params db (statement_of sql (understood these.whole sql)) None command (Ok (tally, next))
        → (next.schema ≡ these.whole) × these.Holds next.trees (after c)

is_write : (command : Command) → IsOnRows command → IsWrite command
is_write (Insert at from) on = tt
is_write (InsertOr at way from clauses) on = tt
is_write (Update at q) on = tt
is_write (Delete at q) on = tt
is_write _ on = absurd on

writes : (command : Command) → IsOnRows command → (params : Row) (old new : State) (text : List ℕ) (count : ℕ)
    → Runs old new None command text params count → Writes old new None command text params count
writes (Insert at from) on params old new text count w = w
writes (InsertOr at way from clauses) on params old new text count w = w
writes (Update at q) on params old new text count w = w
writes (Delete at q) on params old new text count w = w
writes _ on params old new text count w = absurd on

shows_none : (command : Command) → IsOnRows command → (is_query command || (is_pragma command || false)) ≡ false
shows_none (Insert at from) on = refl
shows_none (InsertOr at way from clauses) on = refl
shows_none (Update at q) on = refl
shows_none (Delete at q) on = refl
shows_none _ on = absurd on

ends_none : (command : Command) → IsOnRows command → (command ≡ Begin) ⊎ ((command ≡ Commit) ⊎ (command ≡ Rollback)) → ⊥
ends_none command on (inl e) = subst IsOnRows e on
ends_none command on (inr (inl e)) = subst IsOnRows e on
ends_none command on (inr (inr e)) = subst IsOnRows e on

saves_none : (command : Command) → IsOnRows command → (name : List ℕ) → (command ≡ Release name)
    ⊎ (command ≡ RollbackTo name) → ⊥
saves_none command on name (inl e) = subst IsOnRows e on
saves_none command on name (inr e) = subst IsOnRows e on

closes_none : (command : Command) → IsOnRows command → closes command ≡ false
closes_none (Insert at from) on = refl
closes_none (InsertOr at way from clauses) on = refl
closes_none (Update at q) on = refl
closes_none (Delete at q) on = refl
closes_none _ on = absurd on

module _ {C : Type 0} {these : Tables C} where
  -- everything that a call of such a text does, with the causes of its failure
  pub wrote : {X : Type 0} {sql : List ℕ} {params : Row} {after : C → C}
      {Causes : State → State → Result X Fault → Type 0} {old new : State} (w : Write these sql params after)
      → ((old new : State) (r : Result X Fault) → FailsBy these (HasWriteCause these sql params) old new r → Causes old new r)
      → (answer : Result ℕ Error) (r : Result X Fault)
      → (HasCleanDisk new → Executes sql params old new answer) → Survives old new (CommitsBy sql params old)
      → IsDone answer r → Wrote these after Causes old new r
  wrote {sql = sql} {params = params} {after = after} {old = old} {new = new} w fails answer r ran lives done =
      let write = is_write w.command w.on_rows in
      let writing = writes w.command w.on_rows params in
      let known = is_compiled (understood these.whole sql) w.is.1 in
      record {
        changes = λ clean. done_as (Changes these after old new) (Changes these after old new) (λ n x h. h) (λ e h. h) answer r done
            (changes these sql params w.command w.is.0 w.is.1 write writing after w.does old new answer (ran clean));
        fault = λ clean. fails old new r (fault_done
            (λ f. (c : C) → Means these old.now c → HasWriteCause these sql params old new f)
            answer r done (write_faults these sql params w.command w.is.0 w.is.1 w.is.2 (shows_none w.command w.on_rows)
            (ends_none w.command w.on_rows) (saves_none w.command w.on_rows) old new answer (ran clean)));
        stays = λ clean. stays_done sql params old new (λ c is. ends_nowhere these.whole old.now.schema sql known.0 c known.1 is
            (ap closes (sym (ap command_of known.1) ∙ w.is.0) ∙ closes_none w.command w.on_rows)) answer r done
            (ran clean);
        survives = survives_as old new _ _ (leaves these sql params w.command w.is.0 w.is.1 write writing after w.does old)
            lives;
      }

-- such a text doesn't run as a write, whatever the tables are
silent : {A X : Type 0} {whole : Schema} {Held : Trees → A → Type 0} {sql : List ℕ} {params : Row} {cells : X → Row} {of : A → List X}
    (f : FindIn whole Held sql params cells of) (s : State) (c : Compiled) → understood s.now.schema sql ≡ Ok c
    → c.returning ≡ None
silent {whole = whole} {sql = sql} f s c is =
    let known = is_compiled (understood whole sql) f.is.2 in
    query_everywhere whole s.now.schema sql known.0 c known.1 is (ap is_select (sym (ap command_of known.1) ∙ f.is.0))

module _ {C : Type 0} (these : Tables C) where
  -- a text that finds these structs in the tables
  abbrev pub Find : {X : Type 0} → List ℕ → Row → (X → Row) → (C → List X) → Type 0
  Find sql params cells of = FindIn these.whole these.Holds sql params cells of

module _ {C : Type 0} (these : Tables C) where
  -- ---- queries

  in_tables : (c : C) (db : Database) → Means these db c → (db.schema ≡ these.whole) × these.Holds db.trees c
  in_tables c db means = (means.schema, means.kept.holds)

  module _ {X : Type 0} {sql : List ℕ} {params : Row} {cells : X → Row} {of : C → List X}
      (f : Find these sql params cells of) (old new : State) (answer : Result (Vec Row Global) Error)
      (ok : IfOk answer (λ rows. Shown sql params old new rows.items))
      (err : IfErr answer (FailsToQuery sql params old new)) where
    abbrev Has : C → Database → Type 0
    Has c db = Means these db c

    rows_shown : Shows Has cells of old new answer
    rows_shown = shown f Has in_tables old new answer ok err

    still : OnOk answer (IsUnchanged old new)
    still = answers_still sql params old new answer (silent f old) ok

    find_all : (r : Result (Vec X Global) Fault) → IsEachRead cells answer r
        → Finds these of old new r × OnlyReads old new r × FailsBy these HasCause old new r
    find_all r read = (
      found_all f Has in_tables old new answer ok err r read,
      read_only Has cells of old new answer r read still rows_shown,
      found_fails f Has in_tables old new answer ok err r read,
    )

    find_such : (Such : C → Option X → Type 0) → ((c : C) (trees : Trees) → these.Holds trees c
        → (found : Option X) → IsOneOf (of c) found → Such c found)
        → (r : Result (Option X) Fault) → IsFirstRead cells answer r
        → FindsSuch these Such old new r × OnlyReads old new r × FailsBy these HasCause old new r
    find_such Such so r read = (
      finds_such these cells of Such f.apart so old new answer r read rows_shown,
      first_only Has cells of old new answer r read still rows_shown,
      causes_first Has cells of f.apart old new answer r read rows_shown (causes f Has in_tables old new answer ok err),
    )

  -- everything that a call of such a text does
  module _ {X : Type 0} {sql : List ℕ} {params : Row} {cells : X → Row} {of : C → List X}
      (f : Find these sql params cells of) {old new : State} (answer : Result (Vec Row Global) Error)
      (ok : HasCleanDisk new → IfOk answer (λ rows. Shown sql params old new rows.items))
      (err : HasCleanDisk new → IfErr answer (FailsToQuery sql params old new))
      (lives : Survives old new (CommitsShowing sql params old)) where
    abbrev of_all : {Y : Type 0} {Finding : State → State → Result Y Fault → Type 0} {r : Result Y Fault}
        → (HasCleanDisk new → Finding old new r × OnlyReads old new r × FailsBy these HasCause old new r)
        → Found these Finding old new r
    of_all all = record {
      finds = λ clean. (all clean).0;
      reads = λ clean. (all clean).1;
      fault = λ clean. (all clean).2;
      survives = survives_as old new _ _ (shown_never sql params old (silent f old)) lives;
    }

    pub found : (r : Result (Vec X Global) Fault) → IsEachRead cells answer r → Found these (Finds these of) old new r
    found r read = of_all (λ clean. find_all f old new answer (ok clean) (err clean) r read)

    pub found_such : (Such : C → Option X → Type 0) → ((c : C) (trees : Trees) → these.Holds trees c
        → (found : Option X) → IsOneOf (of c) found → Such c found)
        → (r : Result (Option X) Fault) → IsFirstRead cells answer r → Found these (FindsSuch these Such) old new r
    found_such Such so r read = of_all (λ clean. find_such f old new answer (ok clean) (err clean) Such so r read)

    pub found_one : (r : Result (Option X) Fault) → IsFirstRead cells answer r → Found these (FindsOne these of) old new r
    found_one r read = found_such (λ c. IsOneOf (of c)) (λ c trees h found is. is) r read

-- the same for a query over tables of which less is known
pub found_in : {A X : Type 0} {whole : Schema} {Held : Trees → A → Type 0} {sql : List ℕ} {params : Row} {cells : X → Row} {of : A → List X}
    (f : FindIn whole Held sql params cells of) (Has : A → Database → Type 0)
    → ((a : A) (db : Database) → Has a db → (db.schema ≡ whole) × Held db.trees a) → {old new : State}
    (answer : Result (Vec Row Global) Error) → (HasCleanDisk new → IfOk answer (λ rows. Shown sql params old new rows.items))
    → (HasCleanDisk new → IfErr answer (FailsToQuery sql params old new)) → Survives old new (CommitsShowing sql params old)
    → (r : Result (Vec X Global) Fault) → IsEachRead cells answer r → FoundIn Has of old new r
found_in {sql = sql} {params = params} {cells = cells} {of = of} f Has known {old = old} {new = new} answer ok err lives r
    read = record {
      finds = λ clean. found_all f Has known old new answer (ok clean) (err clean) r read;
      reads = λ clean. read_only Has cells of old new answer r read
          (answers_still sql params old new answer (silent f old) (ok clean))
          (shown f Has known old new answer (ok clean) (err clean));
      fault = λ clean. found_fails f Has known old new answer (ok clean) (err clean) r read;
      survives = survives_as old new _ _ (shown_never sql params old (silent f old)) lives;
    }

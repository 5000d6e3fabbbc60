-- A statement that doesn't end a transaction leaves it open, whatever the tables are.
use Rattle.store_sql.proofs.Words.{Begin, Command, Commit, Compiled, CreateTable, Delete, Err, Error, Executes}
use Rattle.store_sql.proofs.Words.{ExecutesIn, Fault, Insert, InsertOr, IsDone, IsTrue, IsUnchanged, KeepsCommit, List}
use Rattle.store_sql.proofs.Words.{Never, Ok, OnlyReads, Option, Release, Result, Returning, Rollback, RollbackTo, Row}
use Rattle.store_sql.proofs.Words.{Runs, Select, State, Stays, Survives, Update, Writes, cases_Bool, false, inl, inr}
use Rattle.store_sql.proofs.Words.{refl, shows_rows, subst, survives_then, sym, true, unchanged_then, understood, ℕ}
use Rattle.store_sql.proofs.Words.{◌∙◌, ◌≡◌}
use Rattle.sqlite.specs.Command.TheVariants.{CreateIndex, CreateView, DropTable, DropIndex, DropView, Savepoint, Rows}
use Rattle.sqlite.specs.Command.TheVariants.{Nothing}
use Rattle.sqlite.specs.State.{Shows}
use Rattle.store_sql.proofs.Commands.{closes}
use Rattle.store_sql.proofs.Later.{inside_is, stops, stops_then as later_fails}
use Rattle.store_sql.proofs.Statements.{stopped}

-- the transaction stays open, with what was committed
abbrev pub GoesOn : State → State → Type 0
GoesOn old new = Shows old new new.now old.committed old.in_transaction

unchanged_goes : (old new : State) → IsUnchanged old new → GoesOn old new
unchanged_goes old new same = record {
  was_open = same.0.was_open;
  is_open = same.0.is_open;
  now_is = refl;
  committed_is = same.0.committed_is;
  mode = same.0.mode;
}

module _ (old new : State) (returning : Option Returning) (text : List ℕ) (params : Row) (count : ℕ) (inside : IsTrue old.in_transaction)
  where
    writes_go : (command : Command) → Writes old new returning command text params count → GoesOn old new
    writes_go command w = record {
      was_open = w.shown.was_open;
      is_open = w.shown.is_open;
      now_is = refl;
      committed_is = inside_is old.in_transaction old.committed new.now new.committed inside w.shown.committed_is;
      mode = w.shown.mode;
    }

    runs_go : (command : Command) → closes command ≡ false → Runs old new returning command text params count → GoesOn old new
    runs_go (Select q names) none h = absurd h
    runs_go (Insert at from) none h = writes_go (Insert at from) h
    runs_go (InsertOr at how from clauses) none h = writes_go (InsertOr at how from clauses) h
    runs_go (Update at q) none h = writes_go (Update at q) h
    runs_go (Delete at q) none h = writes_go (Delete at q) h
    runs_go CreateTable none h = writes_go CreateTable h
    runs_go (CreateIndex at) none h = writes_go (CreateIndex at) h
    runs_go (DropTable at) none h = writes_go (DropTable at) h
    runs_go (DropIndex at) none h = writes_go (DropIndex at) h
    runs_go CreateView none h = writes_go CreateView h
    runs_go (DropView at) none h = writes_go (DropView at) h
    runs_go Begin none h = absurd (let wrong : true ≡ false = sym inside ∙ h.0 in cc)
    runs_go Commit none h = absurd (cc)
    runs_go Rollback none h = absurd (cc)
    runs_go (Release name) none h = absurd (cc)
    runs_go (Savepoint name) none h = goes_inside h.0.0
      where
        goes_inside : Shows old new old.now old.committed true → GoesOn old new
        goes_inside s = record {
          was_open = s.was_open;
          is_open = s.is_open;
          now_is = refl;
          committed_is = s.committed_is;
          mode = s.mode ∙ sym inside;
        }
    runs_go (RollbackTo name) none h =
        let s = h.2.2 in record {
          was_open = s.was_open;
          is_open = s.is_open;
          now_is = refl;
          committed_is = s.committed_is;
          mode = s.mode ∙ sym inside;
        }
    runs_go (Rows values width names) none h = unchanged_goes old new h.0
    runs_go Nothing none h = unchanged_goes old new h.0

kept : (old new : State) → GoesOn old new → KeepsCommit old new × (new.in_transaction ≡ old.in_transaction)
kept old new goes = (record { was_open = λ _. goes.was_open; committed = λ _. goes.committed_is }, goes.mode)

module _ (sql : List ℕ) (params : Row) (old new : State)
    (none : (c : Compiled) → understood old.now.schema sql ≡ Ok c → closes c.command ≡ false) where
  executes_go : (count : ℕ) → Executes sql params old new (Ok count) → IsTrue old.in_transaction → GoesOn old new
  unfolding ExecutesIn
  executes_go count h inside = elim (cases_Bool (shows_rows false h.0)) [
    | inl shows ↦ absurd (let e = (rw shows at h.2).0 in cc)
    | inr runs ↦ runs_go old new h.0.returning _ _ count inside h.0.command (none h.0 h.1.is) (rw runs at h.2)
  ]

  pub stays_done : {X : Type 0} (answer : Result ℕ Error) (r : Result X Fault) → IsDone answer r → Executes sql params old new answer
      → Stays old new r
  stays_done (Ok count) (Ok x) done ran = λ inside. kept old new (executes_go count ran inside)
  stays_done (Ok count) (Err f) done ran = absurd done
  stays_done (Err e) (Ok x) done ran = absurd done
  stays_done (Err e) (Err f) done ran = λ inside. stops old new (stopped sql params old new e ran)

-- ---- one call after another

-- a call that only reads
pub reads_stay : {X : Type 0} (old new : State) (r : Result X Fault) → OnlyReads old new r → Stays old new r
reads_stay old new (Ok x) same = λ inside. kept old new (unchanged_goes old new same)
reads_stay old new (Err f) fails = λ inside. stops old new fails.0

keeps_then : (a b c : State) → KeepsCommit a b → KeepsCommit b c → KeepsCommit a c
keeps_then a b c p q = record {
  was_open = λ still. p.was_open (q.was_open still);
  committed = λ still. q.committed still ∙ p.committed (q.was_open still);
}

pub stays_then : {X Y E : Type 0} (a b c : State) (x : X) (r : Result Y E) → Stays {E = Fault} a b (Ok x) → Stays b c r
    → Stays a c r
stays_then a b c x (Ok y) one rest = λ inside.
    let p = one inside in
    let q = rest (subst IsTrue (sym p.1) inside) in (keeps_then a b c p.0 q.0, q.1 ∙ p.1)
stays_then a b c x (Err f) one rest = λ inside.
    let p = one inside in keeps_then a b c p.0 (rest (subst IsTrue (sym p.1) inside))

pub reads_then : {X Y : Type 0} (a b c : State) (x : X) (r : Result Y Fault) → OnlyReads a b (Ok x)
    → (IsTrue b.is_open → OnlyReads b c r) → OnlyReads a c r
reads_then a b c x (Ok y) one rest = unchanged_then a b c one (rest one.0.is_open)
reads_then a b c x (Err f) one rest =
    let q = rest one.0.is_open in (later_fails a b c one q.0, λ damaged. unchanged_then a b c one (q.1 damaged))

-- two calls that commit nothing
pub never_then : (a b c : State) → Survives a b Never → Survives b c Never → Survives a c Never
never_then a b c one two = survives_then a b c Never Never Never (λ clean trees h. h) (λ clean trees h. h) one two

-- no statement ran
pub reads_none : {X : Type 0} (s : State) (x : X) → IsTrue s.is_open → OnlyReads s s (Ok x)
reads_none s x is_open = (
  record { was_open = is_open; is_open = is_open; now_is = refl; committed_is = refl; mode = refl },
  record { changes = refl; last_rowid = refl },
  refl,
)

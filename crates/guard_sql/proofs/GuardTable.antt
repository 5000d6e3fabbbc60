-- The statements on the table of the guard, and why its row is refused.
use Rattle.rows.proofs.Words.{AllByRecursion, Binary, Blob, Compare, Database, Eq, FailsBy, Fault, Insert, Int}
use Rattle.rows.proofs.Words.{IsTooLong, List, Lists, Null, RefusedFor, Result, Row, State, Term, Trees, Update, Values}
use Rattle.rows.proofs.Words.{ap, arith, codes, col, column, drop, everything, inl, inr, lit, lt-ltb, op2, pos, refl}
use Rattle.rows.proofs.Words.{true, [], ℕ, ◌<◌, ◌^◌, ◌∷◌, ◌≡◌}
use Rattle.guard_sql.proofs.Words.{EVERY_GUARD, GuardRow, HasGuards, Holds, INSERT_GUARD, LOWER_GUARD, RefusesGuard}
use Rattle.guard_sql.proofs.Words.{RefusesLast, ending_at, guard_at, guard_cells, guard_places, whole, with_guard}
use Rattle.guard_sql.proofs.Words.{with_last}
use Rattle.store_sql.proofs.CallLemmas.{FindIn, IsSelect}
use Rattle.store_sql.proofs.Edits.{keep_all}
use Rattle.store_sql.proofs.Queries.{on_table}
use Rattle.store_sql.proofs.Reasons.{is_exact, never, size, storable}
use Rattle.store_sql.proofs.Rows.{cast_int, cast_null}
use Rattle.store_sql.proofs.Selects.{IsTreeOf, select}
use Rattle.store_sql.proofs.Texts.{query, statement}
use Rattle.store_sql.proofs.Inserts.{taken_number}
use Rattle.rows.proofs.CallLemmas.{Write}
use Rattle.guard_sql.proofs.Elsewhere.{guard_apart, in_guard, simple}
use Rattle.rows.proofs.FaultLemmas.{HasWriteCause, IsStatement}
use Rattle.rows.proofs.Inserts.{IsInsert, insert, insert_fails}
use Rattle.guard_sql.proofs.NumberUpdates.{IsUpdate, update, update_fails}
use Rattle.rows.proofs.Reasons.{IsPut, unclashed}
use Rattle.guard_sql.specs.Contents.{guard_tables}

pub tree : IsTreeOf Holds guard_cells guard_places 0 (λ c. c.guards)
tree = record { stored = λ trees. refl; held = λ trees c h. h.guards; apart = guard_apart }

-- ---- INSERT

abbrev terms : List Term
terms = col 0 0 ∷ lit Null ∷ col 0 1 ∷ col 0 2 ∷ col 0 3 ∷ col 0 4 ∷ []

abbrev pub guard_row : GuardRow → Row
guard_row x = Int (pos x.id) ∷ Null ∷ Int (pos x.schema) ∷ Blob x.ca ∷ Int (pos x.first) ∷ Int (pos x.last) ∷ []

insert_is : IsStatement guard_tables INSERT_GUARD.now (Insert 0 (Values terms 6)) 5
unfolding everything
insert_is = statement whole INSERT_GUARD.now _ 5 refl refl

pub puts : IsInsert guard_tables INSERT_GUARD.now guard_cells guard_places 0 guard_at terms 6 with_guard (λ c. c.guards)
    (λ x rows. guard_row x)
puts = record {
  simple = simple;
  tree = tree;
  found = refl;
  is = λ x. insert_is;
  source = guard_row;
  sourced = λ x. (refl, refl);
  made = λ x rows. (simp (cast_int, cast_null), refl);
  held = λ x db after c h o put. in_guard db after c h (x ∷ c.guards) o;
}

pub put : (x : GuardRow) → Write guard_tables INSERT_GUARD.now (guard_cells x) (with_guard x)
put = insert puts

-- ---- SELECT of all

abbrev columns : List Term
columns = col 1 0 ∷ col 1 2 ∷ col 1 3 ∷ col 1 4 ∷ col 1 5 ∷ []

abbrev names : List (List ℕ)
names = codes "id" ∷ codes "schema" ∷ codes "ca" ∷ codes "first" ∷ codes "last" ∷ []

every_is : IsSelect whole EVERY_GUARD.now (on_table 0 [] columns []) names 0
unfolding everything
every_is = query whole EVERY_GUARD.now _ _ 0 refl refl

abbrev Rows : Trees → List GuardRow → Type 0
Rows trees rows = Lists guard_cells guard_places (trees 0) rows

its_rows : IsTreeOf Rows guard_cells guard_places 0 (λ rows. rows)
its_rows = record { stored = λ trees. refl; held = λ trees rows h. h; apart = guard_apart }

pub every : FindIn whole Rows EVERY_GUARD.now [] guard_cells (λ rows. rows)
every = select its_rows every_is (λ x. true) (λ v. true)
    (λ v. column v 0 ∷ column v 1 ∷ column v 2 ∷ column v 3 ∷ column v 4 ∷ []) (λ x. refl) (λ x. refl) (λ r. refl)
    (λ r. refl) refl (λ rows. keep_all rows)

pub known : (rows : List GuardRow) (db : Database) → HasGuards rows db → (db.schema ≡ whole) × Rows db.trees rows
known rows db has = (has.schema, has.holds)

-- ---- UPDATE of the last serial

abbrev pub last_test : List Term
last_test = op2 (Compare Eq Binary) (col 1 0) (lit (Int (pos 1))) ∷ []

abbrev pub last_project : List Term
last_project = col 1 0 ∷ col 1 0 ∷ lit Null ∷ col 1 2 ∷ col 1 3 ∷ col 1 4 ∷ col 0 0 ∷ []

last_is : IsStatement guard_tables LOWER_GUARD.now (Update 0 (record { lets = []; body = on_table 0 last_test last_project [] })) 1
unfolding everything
last_is = statement whole LOWER_GUARD.now _ 1 refl refl

module _ (last : ℕ) where
  abbrev pub last_params : Row
  last_params = Int (pos last) ∷ []

  abbrev last_row : Row → Row
  last_row v = column v 0 ∷ Null ∷ column v 1 ∷ column v 2 ∷ column v 3 ∷ Int (pos last) ∷ []

  pub ends : IsUpdate LOWER_GUARD.now last_params guard_cells guard_places 0 guard_at last_test last_project
      (λ c. c.guards) (with_last last) (λ x. x.id) 1 (ending_at last) guard_row
  ends = record {
    tree = tree;
    found = refl;
    is = last_is;
    typed = refl;
    next = last_row;
    change = λ v. column v 0 ∷ column v 1 ∷ column v 2 ∷ column v 3 ∷ Int (pos last) ∷ [];
    on_row = λ r. (refl, refl, refl);
    on_struct = λ x. (refl, refl, refl);
    made = λ x. simp (cast_int, cast_null);
    held = λ db next c h o. in_guard db next c h _ o;
  }

  pub end : Write guard_tables LOWER_GUARD.now last_params (with_last last)
  end = update ends

-- ---- why a row is refused

pub is_put : (x : GuardRow) → IsPut whole guard_at (guard_row x)
is_put x = record {
  listed = inl refl;
  formed = (refl, refl, refl, refl);
  short = λ fits. (storable _ (guard_row x) refl exact (omega arith, omega arith) fits, omega arith);
  entries = λ fits. tt;
}
  where
    exact : AllByRecursion (λ v. is_exact v ≡ true) (guard_row x)
    exact = (refl, (refl, (refl, (refl, (refl, (refl, tt))))))

guard_long : (x : GuardRow) → 10 ^ 9 < size (guard_row x) → IsTooLong (guard_cells x)
guard_long x long = omega (arith, long)

pub guard_fails : {X : Type 0} (x : GuardRow) → x.id < 2 ^ 63 → (old new : State) (r : Result X Fault)
    → FailsBy guard_tables (HasWriteCause guard_tables INSERT_GUARD.now (guard_cells x)) old new r → RefusedFor guard_tables (RefusesGuard x) old new r
guard_fails x below = insert_fails puts x (RefusesGuard x) (λ s. is_put x)
    (λ s c means out. never (lt-ltb x.id (2 ^ 63) below) out)
    (λ s c means taken. inl (taken_number (λ y. y.id) x.id (drop 1 (guard_row x)) (λ y r is. ap (λ v. column v 0) is)
    means.kept.holds.guards taken)) (λ s c means clash. absurd (unclashed whole simple s.now.trees guard_at [] (guard_row x) tt clash))
    (λ s c long. inr (guard_long x long))

pub last_fails : {X : Type 0} (last : ℕ) (old new : State) (r : Result X Fault)
    → FailsBy guard_tables (HasWriteCause guard_tables LOWER_GUARD.now (last_params last)) old new r → RefusedFor guard_tables (RefusesLast last) old new r
last_fails last =
    update_fails (ends last) (inl refl) refl (λ x. refl) (λ x. refl) guard_long tt is_put

-- The statements that write the row of the office, that read it, and that change its counters and its schema number;
-- and why that row is refused.
use Rattle.store_sql.proofs.Words.{AllByRecursion, Binary, Blob, COUNT_OFFICE, Compare, Contents, Counters, Database}
use Rattle.store_sql.proofs.Words.{Eq, Err, Error, FailsBy, FailsIn, FailsToQuery, Fault, FindsIn, Global, HasCause}
use Rattle.store_sql.proofs.Words.{HasOffices, HasOne, Holds, INSERT_OFFICE, IfErr, IfOk, Insert, Int, IsEachRead}
use Rattle.store_sql.proofs.Words.{IsTooLong, List, Lists, NUMBER_OFFICE, Null, OfficeRow, Ok, RefusedFor, Result, Row}
use Rattle.store_sql.proofs.Words.{Schema, Shown, State, Table, Term, Text, Trees, Update, Values, Vec, [], ap, arith}
use Rattle.store_sql.proofs.Words.{ascending, codes, col, column, counter_cells, drop, everything, inl, inr, lit}
use Rattle.store_sql.proofs.Words.{lt-ltb, nat_cmp, placed_office, office_cells, office_places, op2, pos, refl, true}
use Rattle.store_sql.proofs.Words.{whole}
use Rattle.store_sql.proofs.Words.{ℕ, ◌<◌, ◌^◌, ◌∷◌, ◌≡◌}
use Rattle.store_sql.proofs.Reasons.{is_exact, IsPut, never, size, storable, unclashed}
use Rattle.store_sql.proofs.Selects.{IsTreeOf, select, number_cmp, FindSorted, select_all}
use Rattle.store_sql.proofs.FaultLemmas.{IsStatement, HasWriteCause}
use Rattle.store_sql.proofs.Rows.{cast_null, cast_int}
use Rattle.store_sql.specs.Changes.{with_office, counted, renumbered, with_counters, with_schema}
use Rattle.store_sql.specs.declared.sql.TheConstants.{EVERY_OFFICE}
use Rattle.store_sql.proofs.Elsewhere.{office_apart, in_office}
use Rattle.store_sql.proofs.CallLemmas.{IsSelect, FindIn, Write, found_all, found_fails}
use Rattle.store_sql.proofs.Edits.{keep_all}
use Rattle.store_sql.proofs.FirstTable.{first_is}
use Rattle.store_sql.proofs.Inserts.{IsInsert, insert, insert_fails, refers_still, taken_number}
use Rattle.store_sql.proofs.Queries.{on_table}
use Rattle.store_sql.proofs.NumberUpdates.{IsUpdate, update, update_fails}
use Rattle.store_sql.specs.Refusals.{RefusesCounters, RefusesNumber, RefusesOffice}
use Rattle.store_sql.proofs.Texts.{query, statement}

pub tree : IsTreeOf Holds office_cells office_places 0 (λ c. c.offices)
tree = record { stored = λ trees. refl; held = λ trees c h. h.offices; apart = office_apart }

-- ---- INSERT

abbrev terms : List Term
terms = col 0 0 ∷ lit Null ∷ col 0 1 ∷ col 0 2 ∷ col 0 3 ∷ col 0 4 ∷ col 0 5 ∷ col 0 6 ∷ col 0 7 ∷ col 0 8 ∷ col 0 9
    ∷ []

abbrev pub office_row : OfficeRow → Row
office_row x = Int (pos x.id) ∷ Null ∷ Int (pos x.schema) ∷ Blob x.ca ∷ Text x.root ∷ Text x.station ∷ Int (pos x.first)
    ∷ Int (pos x.last) ∷ Int (pos x.next) ∷ Int (pos x.version) ∷ Int (pos x.date) ∷ []

insert_is : IsStatement INSERT_OFFICE.now (Insert 0 (Values terms 11)) 10
unfolding everything
insert_is = statement whole INSERT_OFFICE.now _ 10 refl refl

pub puts : IsInsert INSERT_OFFICE.now office_cells office_places 0 placed_office terms 11 with_office (λ c. c.offices)
    (λ x rows. office_row x)
puts = record {
  tree = tree;
  found = refl;
  is = λ x. insert_is;
  source = office_row;
  sourced = λ x. (refl, refl);
  made = λ x rows. (simp (cast_int, cast_null), refl);
  held = λ x db after c h o put. in_office db after c h (x ∷ c.offices) o;
}

pub put : (x : OfficeRow) → Write INSERT_OFFICE.now (office_cells x) (with_office x)
put = insert puts

-- ---- SELECT of all rows

abbrev columns : List Term
columns = col 1 0 ∷ col 1 2 ∷ col 1 3 ∷ col 1 4 ∷ col 1 5 ∷ col 1 6 ∷ col 1 7 ∷ col 1 8 ∷ col 1 9 ∷ col 1 10 ∷ []

abbrev names : List (List ℕ)
names = codes "id" ∷ codes "schema" ∷ codes "ca" ∷ codes "root" ∷ codes "station" ∷ codes "first" ∷ codes "last"
    ∷ codes "next" ∷ codes "version" ∷ codes "date" ∷ []

abbrev shown : Row → Row
shown v = column v 0 ∷ column v 1 ∷ column v 2 ∷ column v 3 ∷ column v 4 ∷ column v 5 ∷ column v 6 ∷ column v 7
    ∷ column v 8 ∷ column v 9 ∷ []

abbrev every_sql : List ℕ
every_sql = EVERY_OFFICE.now

-- a schema that begins with that table, followed by these
abbrev beginning : Schema → List Table → Schema
beginning s others = record s { tables = placed_office ∷ others }

every_is : (s : Schema) (others : List Table)
    → IsSelect (beginning s others) every_sql (on_table 0 [] columns ((col 1 0, ascending Binary) ∷ [])) names 0
unfolding everything
every_is s others = query (beginning s others) every_sql _ _ 0 refl refl

abbrev HoldsOffices : Trees → List OfficeRow → Type 0
HoldsOffices trees xs = Lists office_cells office_places (trees 0) xs

every_beside : (s : Schema) (others : List Table)
    → FindIn (beginning s others) HoldsOffices every_sql ([]) office_cells (λ xs. xs)
every_beside s others = select {places = office_places} {of = λ xs. xs}
    (record { stored = λ trees. refl; held = λ trees xs h. h; apart = office_apart }) (every_is s others)
    (λ x. true) (λ v. true) shown (λ x. refl) (λ x. refl) (λ r. refl) (λ r. refl) refl keep_all

abbrev the_others : List Table
the_others = drop 1 whole.tables

pub every : FindSorted every_sql ([]) office_cells (λ c. c.offices) (λ o. o.id) nat_cmp
every = select_all tree (every_is whole the_others) shown (λ x. refl) (λ r. refl) refl (λ r. refl)
    (λ x y. number_cmp x.id y.id)

-- the rows of that table, whatever the other tables are
module _ (old new : State) (answer : Result (Vec Row Global) Error)
    (ok : IfOk answer (λ rows. Shown every_sql [] old new rows.items))
    (err : IfErr answer (FailsToQuery every_sql [] old new)) where
  abbrev IsBeside : List Table → List OfficeRow → Database → Type 0
  IsBeside others xs db = (db.schema ≡ beginning old.now.schema others) × HoldsOffices db.trees xs

  -- under the schema of the database
  beside : (xs : List OfficeRow) → HasOffices xs old.now → (others : List Table) × IsBeside others xs old.now
  beside xs has =
      let it = first_is old.now.schema.tables has.first in
      (it.0, (ap (λ (ts : List Table). record old.now.schema { tables = ts }) it.1, has.holds))

  pub offices_found : (r : Result (Vec OfficeRow Global) Fault) → IsEachRead office_cells answer r
      → FindsIn HasOffices (λ xs. xs) old new r
  offices_found (Ok found) read = λ xs has.
      let it = beside xs has in
      found_all (every_beside old.now.schema it.0) (IsBeside it.0) (λ xs db is. is) old new answer ok err (Ok found) read xs it.1
  offices_found (Err f) read = λ xs has.
      let it = beside xs has in
      found_all (every_beside old.now.schema it.0) (IsBeside it.0) (λ xs db is. is) old new answer ok err (Err f) read xs it.1

  pub offices_fail : (r : Result (Vec OfficeRow Global) Fault) → IsEachRead office_cells answer r
      → FailsIn HasOffices HasCause old new r
  offices_fail (Ok found) read = tt
  offices_fail (Err f) read = λ xs has.
      let it = beside xs has in
      found_fails (every_beside old.now.schema it.0) (IsBeside it.0) (λ xs db is. is) old new answer ok err (Err f) read xs it.1

-- ---- its counters, and its schema number

abbrev pub first_test : List Term
first_test = op2 (Compare Eq Binary) (col 1 0) (lit (Int (pos 1))) ∷ []

-- ---- UPDATE of the counters

abbrev pub count_project : List Term
count_project = col 1 0 ∷ col 1 0 ∷ lit Null ∷ col 1 2 ∷ col 1 3 ∷ col 1 4 ∷ col 1 5 ∷ col 1 6 ∷ col 1 7 ∷ col 0 0
    ∷ col 0 1 ∷ col 0 2 ∷ []

count_is : IsStatement COUNT_OFFICE.now
    (Update 0 (record { lets = []; body = on_table 0 first_test count_project [] })) 3
unfolding everything
count_is = statement whole COUNT_OFFICE.now _ 3 refl refl

module _ (k : Counters) where
  abbrev count_row : Row → Row
  count_row v = column v 0 ∷ Null ∷ column v 1 ∷ column v 2 ∷ column v 3 ∷ column v 4 ∷ column v 5 ∷ column v 6
      ∷ counter_cells k

  pub counts : IsUpdate COUNT_OFFICE.now
      (counter_cells k) office_cells office_places 0 placed_office first_test count_project
      (λ c. c.offices) (with_counters k) (λ o. o.id) 1 (counted k) office_row
  counts = record {
    tree = tree;
    found = refl;
    is = count_is;
    typed = refl;
    next = count_row;
    change = λ v. column v 0 ∷ column v 1 ∷ column v 2 ∷ column v 3 ∷ column v 4 ∷ column v 5 ∷ column v 6
        ∷ counter_cells k;
    on_row = λ r. (refl, refl, refl);
    on_struct = λ x. (refl, refl, refl);
    made = λ x. simp (cast_int, cast_null);
    held = λ db next c h o. in_office db next c h _ o;
  }

  pub count : Write COUNT_OFFICE.now (counter_cells k) (with_counters k)
  count = update counts

-- ---- UPDATE of the schema number

abbrev pub number_project : List Term
number_project = col 1 0 ∷ col 1 0 ∷ lit Null ∷ col 0 0 ∷ col 1 3 ∷ col 1 4 ∷ col 1 5 ∷ col 1 6 ∷ col 1 7 ∷ col 1 8
    ∷ col 1 9 ∷ col 1 10 ∷ []

number_is : IsStatement NUMBER_OFFICE.now
    (Update 0 (record { lets = []; body = on_table 0 first_test number_project [] })) 1
unfolding everything
number_is = statement whole NUMBER_OFFICE.now _ 1 refl refl

module _ (n : ℕ) where
  abbrev number_row : Row → Row
  number_row v = column v 0 ∷ Null ∷ Int (pos n) ∷ column v 2 ∷ column v 3 ∷ column v 4 ∷ column v 5 ∷ column v 6
      ∷ column v 7 ∷ column v 8 ∷ column v 9 ∷ []

  pub numbers : IsUpdate NUMBER_OFFICE.now
      (Int (pos n) ∷ []) office_cells office_places 0 placed_office first_test number_project
      (λ c. c.offices) (with_schema n) (λ o. o.id) 1 (renumbered n) office_row
  numbers = record {
    tree = tree;
    found = refl;
    is = number_is;
    typed = refl;
    next = number_row;
    change = λ v. column v 0 ∷ Int (pos n) ∷ column v 2 ∷ column v 3 ∷ column v 4 ∷ column v 5 ∷ column v 6 ∷ column v 7
        ∷ column v 8 ∷ column v 9 ∷ [];
    on_row = λ r. (refl, refl, refl);
    on_struct = λ x. (refl, refl, refl);
    made = λ x. simp (cast_int, cast_null);
    held = λ db next c h o. in_office db next c h _ o;
  }

  pub number : Write NUMBER_OFFICE.now (Int (pos n) ∷ []) (with_schema n)
  number = update numbers

-- ---- why the row of the office is refused

office_put : (o : OfficeRow) → IsPut placed_office (office_row o)
office_put o = record {
  listed = inl refl;
  formed = (refl, refl, refl, refl);
  short = λ fits.
      let exact : AllByRecursion (λ v. is_exact v ≡ true) (office_row o) =
      (refl, (refl, (refl, (refl, (refl, (refl, (refl, (refl, (refl, (refl, (refl, tt))))))))))) in
      (storable _ (office_row o) refl exact (omega arith, omega arith) fits, omega arith);
  entries = λ fits. ((λ e. cc), ((λ e. cc), ((λ e. cc), ((λ e. cc), tt))));
}

office_long : (x : OfficeRow) → 10 ^ 9 < size (office_row x) → IsTooLong (office_cells x)
office_long x long = omega (arith, long)

pub office_fails : {X : Type 0} (x : OfficeRow) → x.id < 2 ^ 63 → (old new : State) (r : Result X Fault)
    → FailsBy (HasWriteCause INSERT_OFFICE.now (office_cells x)) old new r → RefusedFor (RefusesOffice x) old new r
office_fails x below = insert_fails puts x (RefusesOffice x) (λ s. office_put x)
    (λ s c means out. never (lt-ltb x.id (2 ^ 63) below) out)
    (λ s c means taken. inl (taken_number (λ y. y.id) x.id
    (drop 1 (office_row x)) (λ y r is. ap (λ v. column v 0) is) means.kept.holds.offices taken))
    (λ s c means clash. absurd (unclashed s.now.trees placed_office [] (office_row x)
    ((λ e. never e refl), ((λ e. never e refl), ((λ e. never e refl), ((λ e. never e refl), tt)))) clash))
    (λ s c long. inr (office_long x long)) (λ s c next means did broken. absurd (broken (refers_still means did refl refl)))

-- ---- its counters, and its schema number

-- an update of the office's row is refused only if the new row is too long
module _ {sql : List ℕ} {params : Row} {project : List Term} {after : Contents → Contents} {u : OfficeRow → OfficeRow}
    (it : IsUpdate sql params office_cells office_places 0 placed_office first_test project (λ c. c.offices) after
    (λ o. o.id) 1 u office_row)
    (same : (x : OfficeRow) → (u x).id ≡ x.id) where
  change_fails : {X : Type 0} (old new : State) (r : Result X Fault) → FailsBy (HasWriteCause sql params) old new r
      → RefusedFor (λ c. HasOne (λ o. (o.id ≡ 1) × IsTooLong (office_cells (u o))) c.offices) old new r
  change_fails = update_fails it (inl refl) refl same (λ x. refl) office_long
      ((λ e. never e refl), ((λ e. never e refl), ((λ e. never e refl), ((λ e. never e refl), tt)))) office_put
      (λ s c x r next means here is did. refers_still means did refl refl)

-- ---- the calls

pub counters_fail : {X : Type 0} (k : Counters) (old new : State) (r : Result X Fault)
    → FailsBy (HasWriteCause COUNT_OFFICE.now (counter_cells k)) old new r → RefusedFor (RefusesCounters k) old new r
counters_fail k = change_fails (counts k) (λ x. refl)

pub number_fails : {X : Type 0} (n : ℕ) (old new : State) (r : Result X Fault)
    → FailsBy (HasWriteCause NUMBER_OFFICE.now (Int (pos n) ∷ [])) old new r → RefusedFor (RefusesNumber n) old new r
number_fails n = change_fails (numbers n) (λ x. refl)

-- A database in which an office was made or migrated had no office of this schema.
use Rattle.office_jobs.proofs.Words.{Err, Ok, Result, State, is_office_table, list_any, true, whole, ◌≡◌, ◌≢◌}
use Rattle.std.proofs.Common.{drop}
use Rattle.store_sql.specs.Look.{first_is_office, is_ca_name, is_office_name}
use Rattle.store_sql.specs.Look.{whole_has_ca, whole_has_tables}

-- if a call that refuses tables with an office's names succeeded, the schema wasn't an office's
pub had_no_office : {X E : Type 0} (old : State) (r : Result X E) (x : X) (e : E) → r ≡ Ok x
    → (list_any is_office_name old.now.schema.tables ≡ true → r ≡ Err e) → old.now.schema ≢ whole
had_no_office old r x e done already same =
    absurd (let no = already (rw (same) whole_has_tables) in let yes = done in cc)

-- the first table of an office is the table `office`
office_first : list_any is_office_table whole.tables ≡ true
office_first = first_is_office (drop 1 whole.tables)

-- the same for a call that refuses a table of CAs next to an office's table
pub had_no_cas : {X E : Type 0} (old : State) (r : Result X E) (x : X) (e : E) → r ≡ Ok x
    → (list_any is_office_table old.now.schema.tables ≡ true → list_any is_ca_name old.now.schema.tables ≡ true
    → r ≡ Err e)
    → old.now.schema ≢ whole
had_no_cas old r x e done already same =
    absurd (let no = already (rw (same) office_first) (rw (same) whole_has_ca) in let yes = done in cc)

-- The table of approved bodies, whatever its rows hold.
use Rattle.guard_sql.proofs.Words.{ApprovalRow, FIND_APPROVED, FROM_APPROVED, approval_cells, approval_places, whole}
use Rattle.rows.proofs.Words.{Binary, Compare, Eq, Err, Error, FailsToQuery, Fault, Global, HasCleanDisk, IfErr, IfOk}
use Rattle.rows.proofs.Words.{Int, IsFirstRead, IsPermutation, List, None, Ok, Option, Result, Row, Shown, Some, State}
use Rattle.rows.proofs.Words.{Trees, Vec, all-permutation, and-true, ap, arith, binary, column, is_true}
use Rattle.rows.proofs.Words.{length_permutation, map, number_in, pos, refl, subst, sym, true, [], ℕ, ◌&&◌, ◌<◌, ◌==◌}
use Rattle.rows.proofs.Words.{◌^◌, ◌∙◌, ◌∷◌, ◌≡◌}
use Rattle.std.specs.Option.{option_map}
use Rattle.sqlite.specs.Effect.{Database}
use Rattle.store_sql.specs.Contents.{Lists}
use Rattle.store_sql.specs.Faults.{HasCause, HasFailed, fault_of}
use Rattle.store_sql.specs.declared.table_fault.Fault.TheVariants.{Damaged, Device, NoMemory}
use Rattle.store_sql.proofs.CallLemmas.{FindIn, causes, shown}
use Rattle.store_sql.proofs.FoundLemmas.{Shows, unmapped}
use Rattle.store_sql.proofs.Queries.{int_test}
use Rattle.store_sql.proofs.Rows.{same_number}
use Rattle.store_sql.proofs.Selects.{IsTreeOf, select}
use Rattle.guard_sql.specs.Damage.{AnyRow, HasRows, SaysApprovedUnless, SaysBody, SaysBodyUnless, SaysFirst, SaysFirstUnless}
use Rattle.guard_sql.specs.Damage.{SaysRow, SaysRowUnless, any_cells, rows_under}
use Rattle.guard_sql.specs.Rows.{approved_in}
use Rattle.guard_sql.specs.Told.{told}
use Rattle.guard_sql.proofs.ApprovalTable.{find_is, from_of, shown_row}
use Rattle.guard_sql.proofs.FirstFrom.{IsFirst as IsFirstIn, first_from, is_first}

abbrev any_in : Row → AnyRow
any_in r = record { serial = number_in (column r 0); moment = column r 1; body = column r 2 }

any_apart : (x y : AnyRow) → any_cells x ≡ any_cells y → x ≡ y
any_apart x y e = ap any_in e

abbrev Rows : Trees → List AnyRow → Type 0
Rows trees rows = Lists any_cells approval_places (trees 1) rows

its_rows : IsTreeOf Rows any_cells approval_places 1 (λ rows. rows)
its_rows = record { stored = λ trees. refl; held = λ trees rows h. h; apart = any_apart }

any : (serial : ℕ) → FindIn whole Rows FIND_APPROVED.now (Int (pos serial) ∷ []) any_cells (rows_under serial)
any serial = select its_rows find_is (λ x. x.serial == serial)
    (λ v. is_true (binary (Compare Eq Binary) (column v 0) (Int (pos serial))) && true)
    shown_row (λ x. and-true _ ∙ int_test (pos x.serial) (pos serial) ∙ same_number x.serial serial) (λ x. refl) (λ r. refl)
    (λ r. refl) refl (λ rows. refl)

known : (rows : List AnyRow) (db : Database) → HasRows rows db → (db.schema ≡ whole) × Rows db.trees rows
known rows db has = (has.schema, has.holds)

none_there : (xs : List AnyRow) (got : List Row) → IsPermutation (map any_cells xs) got → got ≡ [] → xs ≡ []
none_there [] got same none = refl
none_there (x ∷ xs) got same none =
    absurd (let many = length_permutation (map any_cells (x ∷ xs)) [] (subst (IsPermutation (map any_cells (x ∷ xs))) none same)
    in omega arith)

of_cause : (rows : List AnyRow) (serial : ℕ) (old new : State) (f : Fault) → HasCause old new f
    → SaysRow rows serial (HasFailed old new) (Err f)
of_cause rows serial old new NoMemory cause = tt
of_cause rows serial old new Device cause = cause
of_cause rows serial old new Damaged cause = absurd cause

says_row : (serial : ℕ) (rows : List AnyRow) (old new : State) → HasRows rows old.now
    → (answer : Result (Vec Row Global) Error) (r : Result (Option ApprovalRow) Fault)
    → IsFirstRead approval_cells answer r → Shows HasRows any_cells (rows_under serial) old new answer
    → IfErr answer (λ e. (a : List AnyRow) → HasRows a old.now → HasCause old new (fault_of e))
    → SaysRow rows serial (HasFailed old new) r
says_row serial rows old new has (Ok got) (Ok None) read shows cause =
    none_there (rows_under serial rows) got.items (shows rows has).1 read
says_row serial rows old new has (Ok got) (Ok (Some a)) read shows cause =
    (read.0, subst (IsPermutation (map any_cells (rows_under serial rows))) read.1 (shows rows has).1)
says_row serial rows old new has (Ok got) (Err NoMemory) read shows cause = tt
says_row serial rows old new has (Ok got) (Err Damaged) read shows cause = λ xs same.
    let all = unmapped approval_cells xs got.items
    (subst (λ (l : List Row). IsPermutation l got.items) same (shows rows has).1) in
    read all.0 all.2
says_row serial rows old new has (Ok got) (Err Device) read shows cause = absurd read
says_row serial rows old new has (Err e) (Ok found) read shows cause = absurd read
says_row serial rows old new has (Err e) (Err f) read shows cause =
    of_cause rows serial old new f (subst (HasCause old new) (sym read) (cause rows has))

-- whatever the table holds, the answer is what the first row found says
pub says : (serial : ℕ) (old new : State) (answer : Result (Vec Row Global) Error)
    → (HasCleanDisk new → IfOk answer (λ rows. Shown FIND_APPROVED.now (Int (pos serial) ∷ []) old new rows.items))
    → (HasCleanDisk new → IfErr answer (FailsToQuery FIND_APPROVED.now (Int (pos serial) ∷ []) old new))
    → (r : Result (Option ApprovalRow) Fault) → IsFirstRead approval_cells answer r → HasCleanDisk new
    → SaysRowUnless serial old new r
says serial old new answer ok err r read clean rows has =
    says_row serial rows old new has answer r read (shown (any serial) HasRows known old new answer (ok clean) (err clean))
    (causes (any serial) HasRows known old new answer (ok clean) (err clean))

-- ---- the body alone

abbrev body_in : Option ApprovalRow → Option (List ℕ)
body_in = option_map (λ (a : ApprovalRow). a.body)

pub says_body : (serial : ℕ) (old new : State) (r : Result (Option ApprovalRow) Fault) → SaysRowUnless serial old new r
    → SaysBodyUnless serial old new (told body_in r)
says_body serial old new (Ok None) says low rows has = says rows has
says_body serial old new (Ok (Some a)) says low rows has = (a, refl, says rows has)
says_body serial old new (Err Damaged) says low rows has = says rows has
says_body serial old new (Err Device) says low rows has = says rows has
says_body serial old new (Err NoMemory) says low rows has = tt

-- ---- the row with the least serial from a given one on

first : (from : ℕ) → FindIn whole Rows FROM_APPROVED.now (Int (pos from) ∷ []) any_cells
    (λ rows. first_from (λ (r : AnyRow). r.serial) from rows)
first = from_of its_rows (λ (r : AnyRow). r.serial) (λ x. refl) (λ x. refl)

cause_of_first : (rows : List AnyRow) (from : ℕ) (old new : State) (f : Fault) → HasCause old new f
    → SaysFirst rows from (HasFailed old new) (Err f)
cause_of_first rows from old new NoMemory cause = tt
cause_of_first rows from old new Device cause = cause
cause_of_first rows from old new Damaged cause = absurd cause

-- a query of at most one row shows that row
no_rows : (got : List Row) → IsPermutation [] got → got ≡ []
no_rows [] same = refl
no_rows (r ∷ got) same = absurd (let many = length_permutation [] (r ∷ got) same in omega (arith, many))

one_row : (r : Row) (got : List Row) → IsPermutation (r ∷ []) got → got ≡ r ∷ []
one_row r [] same = absurd (let many = length_permutation (r ∷ []) [] same in omega (arith, many))
one_row r (x ∷ []) same =
    ap (λ y. y ∷ []) (all-permutation (λ y. y ≡ r) (r ∷ []) (x ∷ []) same (refl, tt)).0
one_row r (x ∷ y ∷ got) same =
    absurd (let many = length_permutation (r ∷ []) (x ∷ y ∷ got) same in omega (arith, many))

module _ (from : ℕ) (rows : List AnyRow) (old new : State) where
  abbrev Found : List AnyRow → Type 0
  Found xs = IsFirstIn (λ (r : AnyRow). r.serial) from rows xs

  -- what is read from the first row
  of_rows : (xs : List AnyRow) → Found xs → (got : List Row) → IsPermutation (map any_cells xs) got
      → (r : Result (Option ApprovalRow) Fault) (items : Vec Row Global) → items.items ≡ got
      → IsFirstRead approval_cells (Ok items) r → SaysFirst rows from (HasFailed old new) r
  of_rows xs is got same (Err NoMemory) items are read = tt
  of_rows xs is got same (Err Device) items are read = absurd read
  of_rows [] is got same (Ok None) items are read = is
  of_rows [] is got same (Ok (Some a)) items are read =
      let none = sym read.1 ∙ (are ∙ no_rows got same) in absurd cc
  of_rows [] is got same (Err Damaged) items are read = absurd (read [] (are ∙ no_rows got same))
  of_rows (x ∷ xs) is got same (Ok None) items are read =
      let alone : IsPermutation (any_cells x ∷ []) got = subst (λ l. IsPermutation (any_cells x ∷ map any_cells l) got) is.0 same in
      let one = sym read ∙ (are ∙ one_row (any_cells x) got alone) in absurd cc
  of_rows (x ∷ xs) is got same (Ok (Some a)) items are read =
      let alone : IsPermutation (any_cells x ∷ []) got = subst (λ l. IsPermutation (any_cells x ∷ map any_cells l) got) is.0 same in
      let one : approval_cells a ∷ read.0 ≡ any_cells x ∷ [] = sym read.1 ∙ (are ∙ one_row (any_cells x) got alone) in
      (x, is.1, cc)
  of_rows (x ∷ xs) is got same (Err Damaged) items are read =
      let alone : IsPermutation (any_cells x ∷ []) got = subst (λ l. IsPermutation (any_cells x ∷ map any_cells l) got) is.0 same in (
        x,
        is.1,
        λ a equal. read (a ∷ []) (are ∙ (one_row (any_cells x) got alone ∙ ap (λ y. y ∷ []) equal)),
      )

  first_row : (has : HasRows rows old.now) (answer : Result (Vec Row Global) Error) (r : Result (Option ApprovalRow) Fault)
      → IsFirstRead approval_cells answer r
      → Shows HasRows any_cells (λ all. first_from (λ (r : AnyRow). r.serial) from all) old new answer
      → IfErr answer (λ e. (a : List AnyRow) → HasRows a old.now → HasCause old new (fault_of e))
      → SaysFirst rows from (HasFailed old new) r
  first_row has (Ok got) r read shows cause =
      of_rows (first_from (λ (r : AnyRow). r.serial) from rows) (is_first (λ (r : AnyRow). r.serial) from rows) got.items
      (shows rows has).1 r got refl read
  first_row has (Err e) (Ok found) read shows cause = absurd read
  first_row has (Err e) (Err f) read shows cause =
      cause_of_first rows from old new f (subst (HasCause old new) (sym read) (cause rows has))

-- whatever the table holds, the answer is what the first row from there on says
pub says_first : (from : ℕ) (old new : State) (answer : Result (Vec Row Global) Error)
    → (HasCleanDisk new → IfOk answer (λ rows. Shown FROM_APPROVED.now (Int (pos from) ∷ []) old new rows.items))
    → (HasCleanDisk new → IfErr answer (FailsToQuery FROM_APPROVED.now (Int (pos from) ∷ []) old new))
    → (r : Result (Option ApprovalRow) Fault) → IsFirstRead approval_cells answer r → HasCleanDisk new
    → SaysFirstUnless from old new r
says_first from old new answer ok err r read clean rows has =
    first_row from rows old new has answer r read
    (shown (first from) HasRows known old new answer (ok clean) (err clean))
    (causes (first from) HasRows known old new answer (ok clean) (err clean))

pub says_approved : (from : ℕ) (old new : State) (r : Result (Option ApprovalRow) Fault) → SaysFirstUnless from old new r
    → SaysApprovedUnless from old new (told (option_map approved_in) r)
says_approved from old new (Ok None) says low rows has = says rows has
says_approved from old new (Ok (Some a)) says low rows has = (a, refl, says rows has)
says_approved from old new (Err Damaged) says low rows has = says rows has
says_approved from old new (Err Device) says low rows has = says rows has
says_approved from old new (Err NoMemory) says low rows has = tt

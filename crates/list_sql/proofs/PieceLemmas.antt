-- A list in pieces: how its rows are written, and that they represent it.
use Rattle.std.proofs.Common.{◌≡◌, ◌≢◌, ◌∷◌, ◌∙◌, ◌<◌, ◌+◌, ◌-◌, ◌*◌, ◌≤◌, ℕ, zero, suc, true, List, [], Option}
use Rattle.std.proofs.Common.{◌%◌, None, Some, Ok, Err, Result, ap, ap₂, arith, drop, inl, inr, length, map, mod-lt}
use Rattle.std.proofs.Common.{refl, sym, take, take-add, take_all}
use Rattle.std.specs.Prelude.{MatchOption}
use Rattle.std.specs.List.{list_all, range_with_len}
use Rattle.std.proofs.lemmas.Bool.{cases_lt, or_left}
use Rattle.std.proofs.lemmas.List.{length-take}
use Rattle.std.proofs.lemmas.List.FromFn.{length-map-range_with_len, map-range_with_len_more}
use Rattle.std.proofs.lemmas.Nat.{div-add-mod'}
use Rattle.sqlite.specs.State.{HasCleanDisk, State}
use Rattle.sqlite_rules.proofs.ProbeLemmas.{mapped_has}
use Rattle.sqlite_rules.specs.Lists.{Has}
use Rattle.store_sql.proofs.Edits.{mapped_from}
use Rattle.store_sql.proofs.Staying.{stays_then}
use Rattle.store_sql.specs.declared.table_fault.Fault.{Fault}
use Rattle.list_sql.specs.declared.lists.ListRow.{ListRow}
use Rattle.list_sql.specs.Changes.{with_list, with_pieces}
use Rattle.list_sql.specs.Contents.{Contents, list_tables}
use Rattle.list_sql.specs.Opening.{add_row, has_schema, is_known, joined, last_in, listed, row_with}
use Rattle.list_sql.specs.Refusals.{RefusesList, RefusesNone}
use Rattle.list_sql.specs.Rows.{bytes_of, first_rows, list_in, list_rows, piece_count, piece_row, piece_size}
use Rattle.rows.specs.Transactions.{Has as HasContents, Part, Waits}
use Rattle.rows.proofs.Causes.{fails_then}
use Rattle.list_sql.proofs.Lookups.{AreApart, found_is, some_rows}
use Rattle.rows.proofs.Steps.{Leads, answers_then, waits_then}

-- ---- places

in_range : (from n at : ℕ) → from ≤ at → at < from + n → Has (range_with_len from n) at
in_range from zero at low high = absurd (omega arith)
in_range from (suc n) at low high = elim (cases_lt from at) [
  | inl later ↦ inr (in_range (from + 1) n at (omega arith) (omega arith))
  | inr here ↦ let same : at ≡ from = omega arith in inl same
]

below : (from n at : ℕ) → Has (range_with_len from n) at → at < from + n
below from zero at here = absurd here
below from (suc n) at (inl same) = omega (arith, same)
below from (suc n) at (inr later) = let lower = below (from + 1) n at later in omega (arith, lower)

-- ---- writing

-- the rows of the first pieces have been written
abbrev pub Written : List ℕ → ℕ → State → State → Type 0
Written list count old new =
    Part list_tables {X = Unit {0}} (HasContents list_tables) (with_pieces list count) RefusesNone old new (Ok tt)

abbrev of_rows : List ListRow → Contents
of_rows rows = record { lists = rows }

-- the row of the next piece is never refused
free : (list : List ℕ) (at : ℕ) (c : Contents) → RefusesList (piece_row list at) (with_pieces list at c) → ⊥
free list at c (inl (row, here, same)) =
    let of = mapped_from (piece_row list) (range_with_len 0 at) row here in
    let lower = below 0 at of.0 of.1 in
    let id : row.id ≡ of.0 + 1 = ap (λ (r : ListRow). r.id) of.2 in
    omega (arith, lower, id, same)
free list at c (inr long) =
    let short = length-take piece_size (drop (at * piece_size) list) in omega (arith, long, short)

module _ (list : List ℕ) (at : ℕ) (old mid new : State) (r : Result (Unit {0}) Fault) (before : Written list at old mid)
    (wrote : Part list_tables (HasContents list_tables) (with_list (piece_row list at)) (RefusesList (piece_row list at)) mid new r) where
  leads_on : HasCleanDisk mid → Leads list_tables (HasContents list_tables) (HasContents list_tables) (with_pieces list at) old mid
  leads_on clean c means = let it = before.makes clean c means in (with_pieces list at c, it.1, it.1.means)

  still : HasCleanDisk new → HasCleanDisk mid
  still clean = omega (arith, wrote.survives.clean)

  more : (c : Contents) → with_list (piece_row list at) (with_pieces list at c) ≡ with_pieces list (at + 1) c
  more c = ap of_rows (sym (map-range_with_len_more (piece_row list) 0 at at (omega arith)))

  -- the next piece is written, or fails to be
  pub one_more : Part list_tables (HasContents list_tables) (with_pieces list (at + 1)) RefusesNone old new r
  one_more = record {
    makes = λ clean. answers_then (HasContents list_tables) (λ _ _. Unit {0}) (with_pieces list (at + 1)) (HasContents list_tables)
        (λ _ _. Unit {0}) (with_list (piece_row list at)) (with_pieces list at) old mid new r (leads_on (still clean))
        (wrote.makes clean) (λ _ _ _. tt) more;
    fault = λ clean. fails_then (HasContents list_tables) (HasContents list_tables) (RefusesList (piece_row list at)) RefusesNone
        (with_pieces list at) (Waits (HasContents list_tables) old) old mid new r (leads_on (still clean))
        (λ c means why. free list at c why) before.survives (still clean) wrote.survives.counts (wrote.fault clean);
    stays = λ clean. stays_then {X = Unit {0}} old mid new tt r (before.stays (still clean)) (wrote.stays clean);
    survives = waits_then (HasContents list_tables) (HasContents list_tables) (with_pieces list at) old mid new leads_on before.survives
        wrote.survives;
  }

-- a part that fails doesn't say what it would have made
pub failed : {after meant : Contents → Contents} {old new : State} {f : Fault}
    → Part list_tables {X = Unit {0}} (HasContents list_tables) after RefusesNone old new (Err f)
    → Part list_tables {X = Unit {0}} (HasContents list_tables) meant RefusesNone old new (Err f)
failed p = record { makes = p.makes; fault = p.fault; stays = p.stays; survives = p.survives }

-- the place is within the list, as is the length of all whole pieces
pub inside : (at size : ℕ) → at < piece_count size → at * piece_size ≤ size
inside at size lower = omega (arith, div-add-mod' (size - 1) piece_size)

pub all_inside : (size : ℕ) → size ≤ piece_count size * piece_size
all_inside size =
    let rest : (size - 1) % piece_size < piece_size = mod-lt (size - 1) (omega arith) in
    omega (arith, rest, div-add-mod' (size - 1) piece_size)

-- ---- reading

all_new : (list : List ℕ) (from n : ℕ) → list_all (has_schema 2) (map (piece_row list) (range_with_len from n)) ≡ true
all_new list from zero = refl
all_new list from (suc n) = all_new list (from + 1) n

pieces_joined : (list : List ℕ) (count : ℕ) → AreApart (first_rows list count) → (n : ℕ) → n ≤ count
    → joined (first_rows list count) n ≡ Some (take (n * piece_size) list)
pieces_joined list count apart zero within = refl
pieces_joined list count apart (suc n) within =
    let here : Has (first_rows list count) (piece_row list n) =
    mapped_has (piece_row list) (range_with_len 0 count) n (in_range 0 count n (omega arith) (omega arith)) in
    let found : row_with (first_rows list count) (n + 1) ≡ Some (piece_row list n) =
    found_is (first_rows list count) (n + 1) (piece_row list n) apart here refl in
    let next : n * piece_size + piece_size ≡ suc n * piece_size = omega arith in
    ap₂ add_row found (pieces_joined list count apart n (omega arith))
    ∙ ap Some (sym (take-add (n * piece_size) piece_size list) ∙ ap (λ (m : ℕ). take m list) next)

list_back : (last : Option (List ℕ)) → MatchOption last (Unit {0}) (λ list. list ≢ []) → list_in (bytes_of last) ≡ last
list_back None filled = refl
list_back (Some []) filled = absurd (filled refl)
list_back (Some (b ∷ bytes)) filled = refl

whole_joined : (list : List ℕ) → AreApart (list_rows list)
    → joined (list_rows list) (piece_count (length list)) ≡ Some list
whole_joined list apart =
    pieces_joined list (piece_count (length list)) apart (piece_count (length list)) (omega arith)
    ∙ ap Some (take_all (piece_count (length list) * piece_size) list (all_inside (length list)))

-- a list that was written is read
pub list_again : (last : Option (List ℕ)) → AreApart (list_rows (bytes_of last))
    → MatchOption last (Unit {0}) (λ list. list ≢ []) → last_in (list_rows (bytes_of last)) ≡ Ok last
list_again last apart filled =
    let list = bytes_of last in
    let many : length (list_rows list) ≡ piece_count (length list) =
    length-map-range_with_len (piece_row list) 0 (piece_count (length list)) in
    let known : is_known (list_rows list) ≡ true = or_left _ _ (all_new list 0 (piece_count (length list))) in
    some_rows (list_rows list) (omega (arith, many))
    ∙ ap₂ listed known (ap (joined (list_rows list)) many ∙ whole_joined list apart) ∙ ap Ok (list_back last filled)

-- The statements on the table of approved bodies, and why a body is refused.
use Rattle.rows.proofs.Words.{AllByRecursion, Binary, Blob, Compare, Eq, Equal, FailsBy, Fault, Ge, Has, Insert, Int}
use Rattle.rows.proofs.Words.{IsAnswer, IsPermutation, IsPermutation-refl, IsSorted, IsTooLong, Key, List, Null, Output}
use Rattle.rows.proofs.Words.{Query, RefusedFor, Result, Row, State, Term, Trees, Values, and-true, ap, ap₂, arith}
use Rattle.rows.proofs.Words.{ascending, at_places, binary, codes, col, column, drop, equal, everything, filter, inl}
use Rattle.rows.proofs.Words.{inr, is_true, lit, lt-ltb, map, nat_le, op2, overlay, pos, refl, rowid, subst, sym, take}
use Rattle.rows.proofs.Words.{tied_itself, tied_same, true, value_cmp, value_cmp_total, [], ℕ, ◌&&◌, ◌<◌, ◌^◌, ◌∙◌, ◌∷◌}
use Rattle.rows.proofs.Words.{◌≡◌}
use Rattle.guard_sql.proofs.Words.{ApprovalRow, Contents, FIND_APPROVED, FROM_APPROVED, Holds, INSERT_APPROVED}
use Rattle.guard_sql.proofs.Words.{RefusesApproval, approval_cells, approval_places, approved_at, approved_under}
use Rattle.guard_sql.proofs.Words.{has_serial, whole, with_approval}
use Rattle.store_sql.proofs.CallLemmas.{FindIn, IsSelect}
use Rattle.store_sql.proofs.Edits.{of_row}
use Rattle.store_sql.proofs.FaultLemmas.{none_overflows}
use Rattle.store_sql.proofs.FoundLemmas.{unmapped}
use Rattle.store_sql.proofs.Queries.{chosen, in_order, int_ge_test, int_test, on_table, selected}
use Rattle.store_sql.proofs.Reasons.{is_exact, never, size, storable}
use Rattle.store_sql.proofs.Rows.{cast_int, cast_null, ge_number, same_number}
use Rattle.store_sql.proofs.Selects.{AscendBy, IsTreeOf, select}
use Rattle.store_sql.proofs.Texts.{query, statement}
use Rattle.store_sql.proofs.Inserts.{taken_number}
use Rattle.rows.proofs.CallLemmas.{Find, Write}
use Rattle.guard_sql.proofs.Elsewhere.{approval_apart, in_approved, simple}
use Rattle.guard_sql.proofs.FirstFrom.{first_from, first_is_least, rises, rising}
use Rattle.rows.proofs.FaultLemmas.{HasWriteCause, IsStatement}
use Rattle.rows.proofs.Inserts.{IsInsert, insert, insert_fails}
use Rattle.rows.proofs.Reasons.{IsPut, unclashed}
use Rattle.guard_sql.specs.Contents.{guard_tables}

pub tree : IsTreeOf Holds approval_cells approval_places 1 (λ c. c.approved)
tree = record { stored = λ trees. refl; held = λ trees c h. h.approved; apart = approval_apart }

-- ---- INSERT

abbrev terms : List Term
terms = col 0 0 ∷ lit Null ∷ col 0 1 ∷ col 0 2 ∷ []

abbrev pub approval_row : ApprovalRow → Row
approval_row x = Int (pos x.serial) ∷ Null ∷ Int (pos x.moment) ∷ Blob x.body ∷ []

insert_is : IsStatement guard_tables INSERT_APPROVED.now (Insert 1 (Values terms 4)) 3
unfolding everything
insert_is = statement whole INSERT_APPROVED.now _ 3 refl refl

pub puts : IsInsert guard_tables INSERT_APPROVED.now approval_cells approval_places 1 approved_at terms 4 with_approval
    (λ c. c.approved) (λ x rows. approval_row x)
puts = record {
  simple = simple;
  tree = tree;
  found = refl;
  is = λ x. insert_is;
  source = approval_row;
  sourced = λ x. (refl, refl);
  made = λ x rows. (simp (cast_int, cast_null), refl);
  held = λ x db after c h o put. in_approved db after c h (x ∷ c.approved) o;
}

pub put : (x : ApprovalRow) → Write guard_tables INSERT_APPROVED.now (approval_cells x) (with_approval x)
put = insert puts

-- ---- SELECT of one row

abbrev columns : List Term
columns = col 1 0 ∷ col 1 2 ∷ col 1 3 ∷ []

abbrev pub shown_row : Row → Row
shown_row v = column v 0 ∷ column v 1 ∷ column v 2 ∷ []

abbrev names : List (List ℕ)
names = codes "serial" ∷ codes "moment" ∷ codes "body" ∷ []

pub find_is : IsSelect whole FIND_APPROVED.now
    (on_table 1 (op2 (Compare Eq Binary) (col 1 0) (col 0 0) ∷ []) columns []) names 1
unfolding everything
find_is = query whole FIND_APPROVED.now _ _ 1 refl refl

pub find : (serial : ℕ) → Find guard_tables FIND_APPROVED.now (Int (pos serial) ∷ []) approval_cells (approved_under serial)
find serial = select tree find_is (has_serial serial)
    (λ v. is_true (binary (Compare Eq Binary) (column v 0) (Int (pos serial))) && true)
    shown_row (λ x. and-true _ ∙ int_test (pos x.serial) (pos serial) ∙ same_number x.serial serial) (λ x. refl) (λ r. refl)
    (λ r. refl) refl (λ c. refl)

-- ---- SELECT of the first row from a serial on

abbrev from_test : List Term
from_test = op2 (Compare Ge Binary) (col 1 0) (col 0 0) ∷ []

abbrev upwards : List (Term × Key)
upwards = (col 1 0, ascending Binary) ∷ []

abbrev high_query : Query
high_query = on_table 1 from_test columns upwards

abbrev from_query : Query
from_query = record high_query { limit = lit (Int (pos 1)) }

from_is : IsSelect whole FROM_APPROVED.now from_query names 1
unfolding everything
from_is = query whole FROM_APPROVED.now _ _ 1 refl refl

-- for any structs with the cells of the table, whose first column is a serial
module _ {A X : Type 0} {Held : Trees → A → Type 0} {cells : X → Row} {of : A → List X}
    (t : IsTreeOf Held cells approval_places 1 of) (serial : X → ℕ)
    (numbered : (x : X) → column (cells x) 0 ≡ Int (pos (serial x)))
    (showed : (x : X) → shown_row (cells x) ≡ cells x) where
  -- no two have the same serial
  pub apart_by_serial : (trees : Trees) (c : A) → Held trees c → (x y : X) → Has (of c) x → Has (of c) y
      → serial x ≡ serial y → x ≡ y
  apart_by_serial trees c h x y here there equal =
      let held = t.held trees c h in
      let r = of_row cells approval_places (trees 1) (of c) x held here in
      let s = of_row cells approval_places (trees 1) (of c) y held there in
      let first : rowid r.0 ≡ Int (pos (serial x)) = ap (λ v. column v 0) r.2 ∙ numbered x in
      let second : rowid s.0 ≡ Int (pos (serial x)) =
      ap (λ v. column v 0) s.2 ∙ (numbered y ∙ ap (λ n. Int (pos n)) (sym equal)) in
      let tie : value_cmp (rowid r.0) (rowid s.0) ≡ Equal =
      ap₂ value_cmp first second ∙ tied_itself value_cmp_total (Int (pos (serial x))) in
      let same : r.0 ≡ s.0 = tied_same (trees 1) r.0 s.0 held.apart r.1 s.1 tie in
      t.apart x y (sym r.2 ∙ ap (at_places approval_places) same ∙ s.2)

  high_passes : (n : ℕ) (a : X)
      → (is_true (binary (Compare Ge Binary) (column (cells a) 0) (Int (pos n))) && true) ≡ nat_le n (serial a)
  high_passes n a =
      and-true _ ∙ (ap (λ v. is_true (binary (Compare Ge Binary) v (Int (pos n)))) (numbered a)
      ∙ (int_ge_test (pos (serial a)) (pos n) ∙ ge_number (serial a) n))

  -- all rows from there on, the one with the least serial first
  module _ (n : ℕ) (trees : Trees) (rows : List Row) (c : A) (h : Held trees c)
      (answer : IsAnswer from_query (overlay trees []) (Int (pos n) ∷ []) rows) where
    abbrev all : List Row
    all = map (λ (o : Output). o.1) answer.ordered

    high_answer : IsAnswer high_query (overlay trees []) (Int (pos n) ∷ []) all
    high_answer = record {
      staged = answer.staged;
      grouped = answer.grouped;
      kept = answer.kept;
      distinct = answer.distinct;
      ordered = answer.ordered;
      same = answer.same;
      sorted = answer.sorted;
      shown = refl;
    }

    high_are : IsPermutation (map cells (filter (λ a. nat_le n (serial a)) (of c))) all
    high_are = chosen cells cells (λ a. nat_le n (serial a)) approval_places
        (λ v. is_true (binary (Compare Ge Binary) (column v 0) (Int (pos n))) && true) shown_row
        (λ x. high_passes n x) (λ x. showed x) (trees 1) all (of c) (t.held trees c h)
        (selected 1 from_test columns upwards trees (Int (pos n) ∷ []) all refl high_answer)

    high_rise : AscendBy 0 all
    high_rise = in_order 1 from_test columns upwards trees (Int (pos n) ∷ []) all (λ v. column v 0 ∷ []) (λ r. refl)
        refl high_answer

    from_answers : IsPermutation (map cells (first_from serial n (of c))) rows
    from_answers =
        let found = unmapped cells (filter (λ a. nat_le n (serial a)) (of c)) all high_are in
        let up : IsSorted (rises serial) found.0 =
        rising serial cells numbered found.0 (subst (AscendBy 0) found.2 high_rise) in
        let one : take 1 found.0 ≡ first_from serial n (of c) =
        first_is_least serial n (of c) found.0 (apart_by_serial trees c h) found.1 up in
        let shown : rows ≡ map cells (take 1 found.0) = answer.shown ∙ ap (take 1) found.2 ∙ taken found.0 in
        subst (IsPermutation (map cells (first_from serial n (of c)))) (sym (shown ∙ ap (map cells) one))
        (IsPermutation-refl _)
      where
        taken : (zs : List X) → take 1 (map cells zs) ≡ map cells (take 1 zs)
        taken [] = refl
        taken (z ∷ zs) = refl

  pub from_of : (n : ℕ) → FindIn whole Held FROM_APPROVED.now (Int (pos n) ∷ []) cells (λ c. first_from serial n (of c))
  from_of n = record {
    query = from_query;
    names = names;
    is = from_is;
    typed = refl;
    sure = λ trees h. elim h [ inl over ↦ over | inr fold ↦ none_overflows _ fold ];
    apart = t.apart;
    answers = λ trees rows c h answer. from_answers n trees rows c h answer;
  }

-- no two rows of a guard have the same serial
pub serial_apart : (trees : Trees) (c : Contents) → Holds trees c → (x y : ApprovalRow) → Has c.approved x
    → Has c.approved y → x.serial ≡ y.serial → x ≡ y
serial_apart = apart_by_serial tree (λ (a : ApprovalRow). a.serial) (λ x. refl) (λ x. refl)

pub from : (n : ℕ) → Find guard_tables FROM_APPROVED.now (Int (pos n) ∷ []) approval_cells
    (λ c. first_from (λ (a : ApprovalRow). a.serial) n c.approved)
from = from_of tree (λ (a : ApprovalRow). a.serial) (λ x. refl) (λ x. refl)

-- ---- why a body is refused

is_put : (x : ApprovalRow) → IsPut whole approved_at (approval_row x)
is_put x = record {
  listed = inr (inl refl);
  formed = (refl, refl, refl, refl);
  short = λ fits. (storable _ (approval_row x) refl exact (omega arith, omega arith) fits, omega arith);
  entries = λ fits. tt;
}
  where
    exact : AllByRecursion (λ v. is_exact v ≡ true) (approval_row x)
    exact = (refl, (refl, (refl, (refl, tt))))

approval_long : (x : ApprovalRow) → 10 ^ 9 < size (approval_row x) → IsTooLong (approval_cells x)
approval_long x long = omega (arith, long)

pub approval_fails : {X : Type 0} (x : ApprovalRow) → x.serial < 2 ^ 63 → (old new : State) (r : Result X Fault)
    → FailsBy guard_tables (HasWriteCause guard_tables INSERT_APPROVED.now (approval_cells x)) old new r
    → RefusedFor guard_tables (RefusesApproval x) old new r
approval_fails x below = insert_fails puts x (RefusesApproval x) (λ s. is_put x)
    (λ s c means out. never (lt-ltb x.serial (2 ^ 63) below) out)
    (λ s c means taken. inl (taken_number (λ y. y.serial) x.serial (drop 1 (approval_row x))
    (λ y r is. ap (λ v. column v 0) is) means.kept.holds.approved taken))
    (λ s c means clash. absurd (unclashed whole simple s.now.trees approved_at [] (approval_row x) tt clash))
    (λ s c long. inr (approval_long x long))

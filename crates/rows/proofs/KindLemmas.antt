-- A row with exactly columns of these kinds is made of the values read from them. Also the names of columns.
use Rattle.store_sql.proofs.Words.{Bool, List, Row, Value, ap, ap₂, arith, blob_in, column, drop, false, get_or, length}
use Rattle.store_sql.proofs.Words.{list_all, map, nat_tests, negsuc, number_in, pos, refl, sym, true, [], ℕ, ◌&&◌, ◌+◌}
use Rattle.store_sql.proofs.Words.{◌<◌, ◌==◌, ◌∙◌, ◌∷◌, ◌≡◌, ◌≤◌}
use Rattle.std.specs.List.{enumerate_from, range_with_len}
use Rattle.std.proofs.lemmas.List.{drop_all, drop_more, ext_get_or}
use Rattle.std.proofs.lemmas.List.FromFn.{length-map-range_with_len, get_or-map-range_with_len}
use Rattle.rows.specs.declared.kind.Kind.{Kind}
use Rattle.rows.specs.declared.kind.Kind.TheVariants.{Blob, Number}
use Rattle.rows.specs.Kinds.{has_kinds, holds}
use Rattle.sqlite.specs.declared.types.Value.TheVariants as value

-- the value that is read from a column, as it is stored
abbrev pub kept : Kind → Value → Value
kept Number v = value.Int (pos (number_in v))
kept Blob v = value.Blob (blob_in v)

abbrev pub kept_from : List Kind → ℕ → Row → Row
kept_from [] at row = []
kept_from (k ∷ kinds) at row = kept k (column row at) ∷ kept_from kinds (at + 1) row

kept_is : (k : Kind) (v : Value) → holds k v ≡ true → v ≡ kept k v
kept_is Number (value.Int (pos n)) h = refl
kept_is Number (value.Int (negsuc n)) h = absurd cc
kept_is Number value.Null h = absurd cc
kept_is Number (value.Real x) h = absurd cc
kept_is Number (value.Text t) h = absurd cc
kept_is Number (value.Blob b) h = absurd cc
kept_is Blob (value.Blob b) h = refl
kept_is Blob (value.Int n) h = absurd cc
kept_is Blob value.Null h = absurd cc
kept_is Blob (value.Real x) h = absurd cc
kept_is Blob (value.Text t) h = absurd cc

both : (a b : Bool) → (a && b) ≡ true → (a ≡ true) × (b ≡ true)
both true b h = (refl, h)
both false b h = absurd cc

all_kept : (kinds : List Kind) (at : ℕ) (row : Row)
    → list_all (λ p. holds p.1 (column row p.0)) (enumerate_from at kinds) ≡ true
    → map (column row) (range_with_len at (length kinds)) ≡ kept_from kinds at row
all_kept [] at row h = refl
all_kept (k ∷ kinds) at row h = let parts = both (holds k (column row at)) _ h in ap₂ ◌∷◌
    (kept_is k (column row at) parts.0) (all_kept kinds (at + 1) row parts.1)

columns_of : (row : Row) (n : ℕ) → length row ≡ n → row ≡ map (column row) (range_with_len 0 n)
columns_of row n is = ext_get_or value.Null row (map (column row) (range_with_len 0 n))
    (is ∙ sym (length-map-range_with_len (column row) 0 n))
    (λ i low. sym (get_or-map-range_with_len (column row) 0 n i i value.Null (omega arith) (omega arith)))

pub fits : (kinds : List Kind) (row : Row) → has_kinds kinds row ≡ true → row ≡ kept_from kinds 0 row
fits kinds row h =
    let parts = both (length row == length kinds) _ h in
    let many : length row ≡ length kinds = grind (arith, nat_tests) in
    columns_of row (length kinds) many ∙ all_kept kinds 0 row parts.1

-- the value of a number
abbrev pub number : ℕ → Value
number n = value.Int (pos n)

-- a row whose first cell holds this value also holds an equal one
pub cell : {A : Type 0} (made : A → Value) {read shown : A} {rest others : Row} → read ≡ shown → others ≡ rest
    → made shown ∷ others ≡ made read ∷ rest
cell made is same = ap₂ ◌∷◌ (ap made (sym is)) same

-- ---- the kinds and the names from one place on

abbrev pub held_from : List Kind → Row → ℕ → Bool
held_from kinds row at = list_all (λ p. holds p.1 (column row p.0)) (enumerate_from at (drop at kinds))

pub held_next : (kinds : List Kind) (row : Row) (at : ℕ) (k : Kind) → at < length kinds
    → held_from kinds row at ≡ (holds (get_or kinds at k) (column row at) && held_from kinds row (at + 1))
held_next kinds row at k inside =
    ap (λ ks. list_all (λ p. holds p.1 (column row p.0)) (enumerate_from at ks)) (drop_more kinds at k inside)

pub held_end : (kinds : List Kind) (row : Row) (at : ℕ) → length kinds ≤ at → held_from kinds row at ≡ true
held_end kinds row at end =
    ap (λ ks. list_all (λ p. holds p.1 (column row p.0)) (enumerate_from at ks)) (drop_all at kinds end)

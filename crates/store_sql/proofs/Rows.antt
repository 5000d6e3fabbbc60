-- A table's rows as records, under edits; row numbers if the rowid is no column; and the tests that a query makes of a
-- row.
use Rattle.store_sql.proofs.Words.{AllByRecursion, Applies, AreNumbered, Binary, Bool, Chosen, Compare, Enforced, Eq}
use Rattle.store_sql.proofs.Words.{Equal, Greater, Has, Int, IsNumber, IsPermutation, IsPermutation-cons}
use Rattle.store_sql.proofs.Words.{IsPermutation-map, IsPermutation-middle, IsPermutation-refl, IsPermutation-trans}
use Rattle.store_sql.proofs.Words.{IsTable, IsTable-put_row, Less, List, Lists, Ne, Null, Ordering, Row, Schema, Table}
use Rattle.store_sql.proofs.Words.{Text, Trees, Value, [], all-permutation, all_from, all_has, ap, ap₂, arith}
use Rattle.store_sql.proofs.Words.{at_places, binary, cases_Bool, cast_row, cond, edit_of, false, filter, id_in, inl}
use Rattle.store_sql.proofs.Words.{inr, int_cmp, int_is, is_eq, is_eq-slice_cmp, is_ge, is_int, is_le, is_ne, is_taken}
use Rattle.store_sql.proofs.Words.{is_true, length, length_permutation, list_any, map, nat_le, nat_tests, next_rowid}
use Rattle.store_sql.proofs.Words.{not, pos, put_row, refl, rowid, some_from, subst, sym, tied_itself, true, value_cmp}
use Rattle.store_sql.proofs.Words.{value_cmp-Int, value_cmp-Text, value_cmp_total, whole, with_rowid, ℕ, ℤ, ◌&&◌, ◌+◌}
use Rattle.store_sql.proofs.Words.{◌==◌, ◌||◌, ◌∙◌, ◌∷◌, ◌≡◌, ◌≤◌}
use Rattle.std.specs.Ordering.{match_ordering}
use Rattle.sqlite.specs.Ops.{unary}
use Rattle.sqlite.specs.Cast.{cast}
use Rattle.sqlite.specs.Kind.TheVariants.{Integer}
use Rattle.std.proofs.Common.{◌+ℤ◌, fold}
use Rattle.std.proofs.lemmas.Int.{ints}
use Rattle.store_sql.proofs.Queries.{text_test, int_test, int_ne_test}

either : {X : Type 0} (b : Bool) (x : X) → cond b x x ≡ x
either true x = refl
either false x = refl

pub cast_null : cast Integer Null ≡ Null
unfolding unary
cast_null = either _ Null

pub cast_int : (n : ℤ) → cast Integer (Int n) ≡ Int n
unfolding unary
cast_int n = either _ (Int n)

free_first : (a b : Bool) → (a || b) ≡ false → (a ≡ false) × (b ≡ false)
free_first true b h = absurd (let e = h in cc)
free_first false b h = (refl, h)

-- a row with a free rowid is added
pub put_adds : (new : Row) (rows : List Row) → is_taken rows new ≡ false → IsPermutation (new ∷ rows) (put_row new rows)
put_adds new [] free = IsPermutation-refl _
put_adds new (r ∷ rs) free = let parts = free_first _ _ free in go (value_cmp (rowid r) (rowid new)) parts.0
    (put_adds new rs parts.1)
  where
    go : (o : Ordering) → is_eq o ≡ false → IsPermutation (new ∷ rs) (put_row new rs)
        → IsPermutation (new ∷ r ∷ rs) (match_ordering o (r ∷ put_row new rs) (new ∷ rs) (new ∷ r ∷ rs))
    go Less e later = IsPermutation-trans _ _ _ (IsPermutation-middle (new ∷ []) r rs) (IsPermutation-cons r _ _ later)
    go Equal e later = absurd (let f = e in cc)
    go Greater e later = IsPermutation-refl _

pub and_first : (a b : Bool) → (not a && b) ≡ true → a ≡ false
and_first true b h = absurd (let e = h in cc)
and_first false b h = refl

-- INSERT of one row adds it
pub inserted : (schema : Schema) (table : Table) (db after : Trees) (source : Row)
    → Applies schema Enforced db (edit_of db table [] Chosen 0 (source ∷ [])) after
    → IsPermutation (with_rowid Chosen (db table.tree) (cast_row table source) ∷ db table.tree) (after table.tree)
inserted schema table db after source did = subst (IsPermutation _) (sym did.rows)
    (put_adds (with_rowid Chosen (db table.tree) (cast_row table source)) (db table.tree) (and_first _ _ did.fresh))

-- one more struct, if its row is added
pub lists_more : {X : Type 0} (cells : X → Row) (places : List ℕ) (table : Table) (db after : Trees) (xs : List X)
    (x : X) (source : Row) → Lists cells places (db table.tree) xs
    → at_places places (with_rowid Chosen (db table.tree) (cast_row table source)) ≡ cells x
    → Applies whole Enforced db (edit_of db table [] Chosen 0 (source ∷ [])) after
    → Lists cells places (after table.tree) (x ∷ xs)
lists_more cells places table db after xs x source h is did = record {
  same = IsPermutation-trans _ _ _ (subst
      (λ v. IsPermutation (cells x ∷ map cells xs) (v ∷ map (at_places places) (db table.tree))) (sym is)
      (IsPermutation-cons (cells x) _ _ h.same))
      (IsPermutation-map (at_places places) _ _ (inserted whole table db after source did));
  apart = subst IsTable (sym did.rows)
      (IsTable-put_row (with_rowid Chosen (db table.tree) (cast_row table source)) (db table.tree) h.apart);
}

-- ---- numbers

weaker : (a b : ℕ) (v : Value) → a ≤ b → IsNumber a v → IsNumber b v
weaker a b v le (n, is, below) = (n, is, omega (arith, le, below))

-- one more row, whose number is at most one above their count
pub more_numbered : (rows after : List Row) (new : Row) → IsPermutation (new ∷ rows) after
    → IsNumber (length rows + 1) (rowid new) → AreNumbered rows → AreNumbered after
more_numbered rows after new put one all =
    let counted = length_permutation (new ∷ rows) after put in
    let count : length after ≡ length rows + 1 = omega (arith, counted) in
    subst (λ n. AllByRecursion (λ r. IsNumber n (rowid r)) after) (sym count)
    (all-permutation (λ r. IsNumber (length rows + 1) (rowid r)) (new ∷ rows) after put (
      one,
      all_from (λ r. IsNumber (length rows + 1) (rowid r)) rows (λ r here.
          weaker (length rows) (length rows + 1) (rowid r) (omega arith) (all_has (λ r. IsNumber (length rows) (rowid r)) rows r all here)),
    ))

-- as many rows, with the same numbers
pub still_numbered : (rows after : List Row) → length after ≡ length rows → AllByRecursion (λ r. IsNumber (length rows) (rowid r)) after
    → AreNumbered after
still_numbered rows after count all = subst (λ n. AllByRecursion (λ r. IsNumber n (rowid r)) after) (sym count) all

last_number : (most : ℕ) (acc : ℤ) (rows : List Row) → (k : ℕ) × (acc ≡ pos k) × (k ≤ most + 1)
    → AllByRecursion (λ r. IsNumber most (rowid r)) rows
    → (k : ℕ) × (fold (λ _ r. id_in (rowid r) +ℤ pos 1) acc rows ≡ pos k) × (k ≤ most + 1)
last_number most acc [] start all = start
last_number most acc (r ∷ rows) start all = last_number most (id_in (rowid r) +ℤ pos 1) rows
    (one_more (id_in (rowid r)) all.0.0 (ap id_in all.0.1) all.0.2) all.1
  where
    one_more : (id : ℤ) (n : ℕ) → id ≡ pos n → n ≤ most → (k : ℕ) × (id +ℤ pos 1 ≡ pos k) × (k ≤ most + 1)
    one_more id n is below = (n + 1, omega (arith, ints, is), omega (arith, below))

-- the number after the last
pub next_number : (rows : List Row) → AreNumbered rows → IsNumber (length rows + 1) (Int (next_rowid rows))
next_number rows all =
    let it = last_number (length rows) (pos 1) rows (1, refl, omega arith) all in (it.0, ap Int it.1, it.2)

pub ints_of : (rows : List Row) → AreNumbered rows → AllByRecursion (λ r. is_int (rowid r) ≡ true) rows
ints_of rows all = all_from (λ r. is_int (rowid r) ≡ true) rows (λ r here. ap is_int (all_has (λ r. IsNumber (length rows) (rowid r)) rows r all here).1)

-- ---- tests

pub same_number : (a b : ℕ) → is_eq (int_cmp (pos a) (pos b)) ≡ (a == b)
same_number a b = grind (arith, nat_tests)

pub le_number : (a b : ℕ) → is_le (int_cmp (pos a) (pos b)) ≡ nat_le a b
le_number a b = grind (arith, nat_tests)

pub ge_number : (a b : ℕ) → is_ge (int_cmp (pos a) (pos b)) ≡ nat_le b a
ge_number a b = grind (arith, nat_tests)

-- comparing two integers
pub eq_tie : (a b : Value) → is_int a ≡ true → is_int b ≡ true
    → is_true (binary (Compare Eq Binary) a b) ≡ is_eq (value_cmp a b)
eq_tie a b m n = rw (int_is a m, int_is b n)
    (int_test (id_in a) (id_in b) ∙ ap is_eq (sym (value_cmp-Int (id_in a) (id_in b))))

pub ne_tie : (a b : Value) → is_int a ≡ true → is_int b ≡ true
    → is_true (binary (Compare Ne Binary) a b) ≡ is_ne (value_cmp a b)
ne_tie a b m n = rw (int_is a m, int_is b n)
    (int_ne_test (id_in a) (id_in b) ∙ ap is_ne (sym (value_cmp-Int (id_in a) (id_in b))))

pub not_ne : (o : Ordering) → is_ne o ≡ false → is_eq o ≡ true
not_ne Less h = absurd cc
not_ne Equal h = refl
not_ne Greater h = absurd cc

pub own_text : (a : List ℕ) → is_true (binary (Compare Eq Binary) (Text a) (Text a)) ≡ true
own_text a = text_test a a ∙ sym (is_eq-slice_cmp a a) ∙ ap is_eq (sym (value_cmp-Text a a))
    ∙ ap is_eq (tied_itself value_cmp_total (Text a))

-- no element passes the test
pub none_passes : {X : Type 0} (p : X → Bool) (xs : List X) → list_any p xs ≡ false → (x : X) → Has xs x → p x ≡ false
none_passes p xs none x here = elim (cases_Bool (p x))
    [ inl hit ↦ absurd (let some : true ≡ false = sym (some_from p xs x here hit) ∙ none in cc) | inr miss ↦ miss ]

-- the only row of a table that passes a test
pub only_one : (p : Row → Bool) (rows : List Row) (r : Row) → IsTable rows → Has rows r → p r ≡ true
    → ((s : Row) → Has rows s → p s ≡ true → s ≡ r) → filter p rows ≡ r ∷ []
only_one p (x ∷ rows) r up here hit only = elim (cases_Bool (p x)) [
  | inl first ↦ rw first (ap₂ ◌∷◌ (only x (inl refl) first) (none_pass rows (λ s later. go s later first)))
  | inr miss ↦ rw miss (elim here [
    | inl same ↦ absurd (let wrong : true ≡ false = sym hit ∙ ap p same ∙ miss in cc)
    | inr later ↦ only_one p rows r up.1 later hit (λ s there. only s (inr there))
  ])
]
  where
    none_pass : (ys : List Row) → ((s : Row) → Has ys s → p s ≡ false) → filter p ys ≡ []
    none_pass [] none = refl
    none_pass (y ∷ ys) none = rw (none y (inl refl)) (none_pass ys (λ s later. none s (inr later)))

    go : (s : Row) → Has rows s → p x ≡ true → p s ≡ false
    go s later first = elim (cases_Bool (p s)) [
      | inl also ↦ absurd (
          let same : s ≡ x = only s (inr later) also ∙ sym (only x (inl refl) first) in
          let below = all_has _ rows s up.0 later in
          let tied : value_cmp (rowid x) (rowid x) ≡ Less = subst (λ t. value_cmp (rowid x) (rowid t) ≡ Less) same
          below in
          let itself = tied_itself value_cmp_total (rowid x) in cc)
      | inr not_it ↦ not_it
    ]
only_one p [] r up here hit only = absurd here

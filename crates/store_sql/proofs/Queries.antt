-- The rows that a SELECT on one table shows.
use Rattle.store_sql.proofs.Words.{AllByRecursion, Binary, Blob, Bool, CommitsShowing, Compare, Compiled, Eq, Err}
use Rattle.store_sql.proofs.Words.{Error, FailsToQuery, Ge, Global, IfOk, Int, IsAnswer, IsNotRun, IsPermutation}
use Rattle.store_sql.proofs.Words.{IsPermutation-filter, IsPermutation-map, IsPermutation-refl, IsPermutation-trans}
use Rattle.store_sql.proofs.Words.{IsPlain, IsRolledBack, IsSorted, IsSorted-from_map, IsUnchanged, Key, Le, List}
use Rattle.store_sql.proofs.Words.{Lists, Ne, Never, None, Ok, OnOk, Option, Output, Query, Result, Returning, Row}
use Rattle.store_sql.proofs.Words.{Shown, Some, State, Term, Text, Trees, Vec, [], all-permutation, ap, ap₂, at_places}
use Rattle.store_sql.proofs.Words.{binary, bytes_eq, cond, eval_all, false, filter, filter-map, holds, inl, inr}
use Rattle.store_sql.proofs.Words.{int_cmp, is_eq, is_eq-slice_cmp, is_ge, is_le, is_ne, is_some, is_true, key_cmp}
use Rattle.store_sql.proofs.Words.{list_all, lit, map, map-map, negsuc, overlay, pos, refl, subst, sym, timed, true}
use Rattle.store_sql.proofs.Words.{understood, value_cmp-Int, value_cmp-Text, ℕ, ℤ, ◌++◌, ◌∙◌, ◌∷◌, ◌≡◌, ◌⊎◌}
use Rattle.std.specs.Prelude.{flat_map}
use Rattle.sqlite.specs.Query.{output_cmp, inner, end, output}
use Rattle.sqlite.specs.State.{FailsToShow, ShowsRows}
use Rattle.sqlite.specs.Ops.{from_truth}
use Rattle.sqlite_value.proofs.OrderLemmas.{value_cmp-Blob}

picked : {A B : Type 0} (p : A → Bool) (f : A → B) (xs : List A)
    → flat_map (λ x. cond (p x) (f x ∷ []) []) xs ≡ map f (filter p xs)
picked p f [] = refl
picked p f (x ∷ xs) = elim (p x) as (λ b. cond b (f x ∷ []) [] ++ flat_map (λ x. cond (p x) (f x ∷ []) []) xs ≡ map f
    (cond b (x ∷ filter p xs) (filter p xs))) [ true ↦ ap (λ l. f x ∷ l) (picked p f xs) | false ↦ picked p f xs ]

-- SELECT .. FROM the table WHERE .. ORDER BY ..
abbrev pub on_table : ℕ → List Term → List Term → List (Term × Key) → Query
on_table t tests project order = record {
  from = inner t end;
  filter = tests;
  group = None;
  project = project;
  distinct = false;
  collations = [];
  order = order;
  limit = lit (Int (negsuc 0));
  offset = lit (Int (pos 0));
}

module _ (t : ℕ) (tests project : List Term) (order : List (Term × Key)) (trees : Trees) (params : Row)
    (rows : List Row) where
  abbrev passes : Row → Bool
  passes r = list_all (holds (params ∷ r ∷ [])) tests

  abbrev shows : Row → Row
  shows r = eval_all project (params ∷ r ∷ [])

  pub selected : overlay trees [] t ≡ trees t → IsAnswer (on_table t tests project order) (overlay trees []) params
      rows → IsPermutation (map shows (filter passes (trees t))) rows
  selected stored a =
      let q = on_table t tests project order in
      let staged : a.staged ≡ map (λ r. params ∷ r ∷ []) (filter passes (trees t)) = a.grouped
      ∙ picked passes (λ r. params ∷ r ∷ []) (overlay trees [] t)
      ∙ ap (λ l. map (λ r. params ∷ r ∷ []) (filter passes l)) stored in
      let kept : a.kept ≡ map (λ r. output q (params ∷ r ∷ [])) (filter passes (trees t)) = a.distinct
      ∙ ap (map (output q)) staged ∙ map-map _ _ (filter passes (trees t)) in
      let same : IsPermutation (map (λ r. output q (params ∷ r ∷ [])) (filter passes (trees t))) a.ordered = subst
      (λ k. IsPermutation k a.ordered) kept a.same in
      subst (IsPermutation (map shows (filter passes (trees t)))) (sym a.shown)
      (subst (λ l. IsPermutation l (map (λ (o : Output). o.1) a.ordered)) (map-map _ _ (filter passes (trees t)))
      (IsPermutation-map (λ (o : Output). o.1) _ _ same))

  -- ORDER BY, if the keys can be computed from the rows shown
  pub in_order : (keyed : Row → Row) →
      ((r : Row) → eval_all (map (λ k. k.0) order) (params ∷ r ∷ []) ≡ keyed (shows r)) → overlay trees [] t ≡ trees t
      → IsAnswer (on_table t tests project order) (overlay trees []) params rows
      → IsSorted (λ x y. key_cmp 0 (map (λ k. k.1) order) (keyed x) (keyed y)) rows
  in_order keyed keys stored a =
      let q = on_table t tests project order in
      let g : Row → Output = λ v. (keyed v, v) in
      let staged : a.staged ≡ map (λ r. params ∷ r ∷ []) (filter passes (trees t)) = a.grouped
      ∙ picked passes (λ r. params ∷ r ∷ []) (overlay trees [] t)
      ∙ ap (λ l. map (λ r. params ∷ r ∷ []) (filter passes l)) stored in
      let kept : a.kept ≡ map (λ r. g (shows r)) (filter passes (trees t)) =
      a.distinct ∙ ap (map (output q)) staged ∙ map-map (output q) (λ r. params ∷ r ∷ []) (filter passes (trees t))
      ∙ (λ i. map (λ r. (keys r i, shows r)) (filter passes (trees t))) in
      let each : AllByRecursion (λ (o : Output). o ≡ g o.1) a.ordered = all-permutation (λ (o : Output). o ≡ g o.1)
      a.kept a.ordered a.same (subst (AllByRecursion (λ (o : Output). o ≡ g o.1)) (sym kept)
      (made (λ r. g (shows r)) (λ r. refl) (filter passes (trees t)))) in
      let whole : a.ordered ≡ map g (map (λ (o : Output). o.1) a.ordered) = again a.ordered each in
      let sorted : IsSorted (output_cmp q) (map g rows) = subst (IsSorted (output_cmp q))
      (whole ∙ ap (map g) (sym a.shown)) a.sorted in
      IsSorted-from_map (output_cmp q) g rows sorted
    where
      made : (f : Row → Output) → ((r : Row) → f r ≡ (keyed (f r).1, (f r).1)) → (rs : List Row)
          → AllByRecursion (λ (o : Output). o ≡ (keyed o.1, o.1)) (map f rs)
      made f is [] = tt
      made f is (r ∷ rs) = (is r, made f is rs)

      again : (os : List Output) → AllByRecursion (λ (o : Output). o ≡ (keyed o.1, o.1)) os
          → os ≡ map (λ v. (keyed v, v)) (map (λ (o : Output). o.1) os)
      again [] all = refl
      again (o ∷ os) all = ap₂ ◌∷◌ all.0 (again os all.1)

-- a query that failed left the database as it was, or the transaction is rolled back
pub query_stopped : (sql : List ℕ) (params : Row) (old new : State) (e : Error) → FailsToQuery sql params old new e
    → IsUnchanged old new ⊎ IsRolledBack old new
unfolding FailsToQuery IsNotRun
query_stopped sql params old new e (inl (inl h)) = inl h.1
query_stopped sql params old new e (inl (inr h)) = inr h.3
query_stopped sql params old new e (inr h) = go h.0.returning h.2
  where
    go : (o : Option Returning) → FailsToShow old new sql h.0 (timed params h.0.formats h.1.now) e o
        → IsUnchanged old new ⊎ IsRolledBack old new
    go None f = inl f.3
    go (Some what) (inl refused) = inl refused.1
    go (Some what) (inr failed) = inr failed.3

pub shown_unchanged : (sql : List ℕ) (params : Row) (old new : State) (rows : List Row)
    → IsPlain (understood old.now.schema sql) → Shown sql params old new rows → IsUnchanged old new
unfolding Shown
shown_unchanged sql params old new rows plain h =
    let bare = subst IsPlain h.1.is plain in (rw (bare.0) at h.2).3

truth_of : (b : Bool) → is_true (from_truth (Some b)) ≡ b
truth_of true = refl
truth_of false = refl

-- `=` on two texts
pub text_test : (a b : List ℕ) → is_true (binary (Compare Eq Binary) (Text a) (Text b)) ≡ bytes_eq a b
unfolding binary
text_test a b = truth_of _ ∙ ap is_eq (value_cmp-Text a b) ∙ is_eq-slice_cmp a b

pub blob_test : (a b : List ℕ) → is_true (binary (Compare Eq Binary) (Blob a) (Blob b)) ≡ bytes_eq a b
unfolding binary
blob_test a b = truth_of _ ∙ ap is_eq (value_cmp-Blob a b) ∙ is_eq-slice_cmp a b

pub int_test : (a b : ℤ) → is_true (binary (Compare Eq Binary) (Int a) (Int b)) ≡ is_eq (int_cmp a b)
unfolding binary
int_test a b = truth_of _ ∙ ap is_eq (value_cmp-Int a b)

pub int_le_test : (a b : ℤ) → is_true (binary (Compare Le Binary) (Int a) (Int b)) ≡ is_le (int_cmp a b)
unfolding binary
int_le_test a b = truth_of _ ∙ ap is_le (value_cmp-Int a b)

pub int_ge_test : (a b : ℤ) → is_true (binary (Compare Ge Binary) (Int a) (Int b)) ≡ is_ge (int_cmp a b)
unfolding binary
int_ge_test a b = truth_of _ ∙ ap is_ge (value_cmp-Int a b)

pub int_ne_test : (a b : ℤ) → is_true (binary (Compare Ne Binary) (Int a) (Int b)) ≡ is_ne (int_cmp a b)
unfolding binary
int_ne_test a b = truth_of _ ∙ ap is_ne (value_cmp-Int a b)

-- the same choice among the rows and among the records
module _ {X : Type 0} (cells shown : X → Row) (mine : X → Bool) (places : List ℕ) (tests : Row → Bool)
    (shows : Row → Row)
    (tested : (x : X) → tests (cells x) ≡ mine x) (showed : (x : X) → shows (cells x) ≡ shown x) where
  pub chosen : (rows out : List Row) (xs : List X) → Lists cells places rows xs
      → IsPermutation (map (λ r. shows (at_places places r)) (filter (λ r. tests (at_places places r)) rows)) out
      → IsPermutation (map shown (filter mine xs)) out
  chosen rows out xs h same =
      let left : map shows (filter tests (map cells xs)) ≡ map shown (filter mine xs) =
      ap (map shows) (filter-map tests cells xs) ∙ map-map shows cells (filter (λ x. tests (cells x)) xs)
      ∙ (λ i. map (λ x. showed x i) (filter (λ x. tested x i) xs)) in
      let right : map shows (filter tests (map (at_places places) rows)) ≡ map (λ r. shows (at_places places r))
      (filter (λ r. tests (at_places places r)) rows) =
      ap (map shows) (filter-map tests (at_places places) rows)
      ∙ map-map shows (at_places places) (filter (λ r. tests (at_places places r)) rows) in
      let both : IsPermutation (map shows (filter tests (map cells xs)))
      (map shows (filter tests (map (at_places places) rows))) = IsPermutation-map shows _ _
      (IsPermutation-filter tests _ _ h.same) in
      let wanted = map (λ r. shows (at_places places r)) (filter (λ r. tests (at_places places r)) rows) in
      let turned : IsPermutation (map shown (filter mine xs)) wanted = subst (λ l. IsPermutation l wanted) left
      (subst (IsPermutation (map shows (filter tests (map cells xs)))) right both) in
      IsPermutation-trans (map shown (filter mine xs)) wanted out turned same

-- the rows that pass are those of the structs that do
pub lists_left : {X : Type 0} (cells : X → Row) (mine : X → Bool) (places : List ℕ) (tests : Row → Bool)
    (tested : (x : X) → tests (cells x) ≡ mine x) (rows : List Row) (xs : List X)
    → Lists cells places rows xs → IsPermutation (map cells (filter mine xs))
    (map (at_places places) (filter (λ r. tests (at_places places r)) rows))
lists_left cells mine places tests tested rows xs h = chosen cells cells mine places tests (λ v. v) tested (λ x. refl)
    rows _ xs h (IsPermutation-refl _)

-- a query that answered changed nothing, whatever the tables are
pub shown_still : (sql : List ℕ) (params : Row) (old new : State) (rows : List Row)
    → ((c : Compiled) → understood old.now.schema sql ≡ Ok c → c.returning ≡ None) → Shown sql params old new rows
    → IsUnchanged old new
unfolding Shown
shown_still sql params old new rows silent h =
    (subst (ShowsRows old new sql h.0 (timed params h.0.formats h.1.now) rows) (silent h.0 h.1.is) h.2).3

pub answers_still : (sql : List ℕ) (params : Row) (old new : State) (r : Result (Vec Row Global) Error)
    → ((c : Compiled) → understood old.now.schema sql ≡ Ok c → c.returning ≡ None)
    → IfOk r (λ rows. Shown sql params old new rows.items) → OnOk r (IsUnchanged old new)
answers_still sql params old new (Ok rows) silent h = shown_still sql params old new rows.items silent h
answers_still sql params old new (Err e) silent h = tt

-- nor does it commit anything
pub shown_never : (sql : List ℕ) (params : Row) (s : State)
    → ((c : Compiled) → understood s.now.schema sql ≡ Ok c → c.returning ≡ None) → (trees : Trees)
    → CommitsShowing sql params s trees → Never trees
unfolding CommitsShowing
shown_never sql params s silent trees h =
    let wrong : true ≡ false = sym h.2 ∙ ap (λ (r : Option Returning). is_some r) (silent h.0 h.1.is) in cc

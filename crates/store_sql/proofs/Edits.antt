-- The rows after a DELETE or an UPDATE.
use Rattle.store_sql.proofs.Words.{Applies, Bool, Enforced, Equal, Given, Greater, Has, Int, IsPermutation}
use Rattle.store_sql.proofs.Words.{IsPermutation-cons, IsPermutation-filter, IsPermutation-map, IsPermutation-middle}
use Rattle.store_sql.proofs.Words.{IsPermutation-refl, IsPermutation-sym, IsPermutation-trans, IsTable, IsTable-put_row}
use Rattle.store_sql.proofs.Words.{Less, List, Lists, Ordering, Row, Schema, Table, Trees, [], all-permutation}
use Rattle.store_sql.proofs.Words.{all_from, all_has, ap, ap₂, at_places, cases_Bool, cast_row, cond, drop, edit_of}
use Rattle.store_sql.proofs.Words.{false, filter, filter-map, has_filtered, has_kept, has_rowid, id_in, ids_of, inl}
use Rattle.store_sql.proofs.Words.{inr, int_is, is_eq, is_int, is_taken, left_by, list_any, map, map-map, mapped_has}
use Rattle.store_sql.proofs.Words.{not, put_row, refl, rowid, some_from, some_has, subst, sym, tied_itself, tied_same}
use Rattle.store_sql.proofs.Words.{true, value_cmp, value_cmp_total, whole, without_all, without_rowid, ℕ, ℤ, ◌&&◌}
use Rattle.store_sql.proofs.Words.{◌++◌, ◌||◌, ◌∙◌, ◌∷◌, ◌≡◌}
use Rattle.std.proofs.lemmas.List.Sorted.{IsPermutation-append, IsPermutation-append_left, IsPermutation-append_right}
use Rattle.std.proofs.lemmas.List.Sorted.{list_any-IsPermutation}
use Rattle.sqlite.specs.Edit.{put_all, numbered, are_fresh}
use Rattle.std.proofs.lemmas.List.{map-append}
use Rattle.store_sql.proofs.Rows.{put_adds}

pub keep_all : {X : Type 0} (xs : List X) → filter (λ x. true) xs ≡ xs
keep_all [] = refl
keep_all (x ∷ xs) = ap (λ l. x ∷ l) (keep_all xs)

filter_twice : {X : Type 0} (p q : X → Bool) (xs : List X)
    → filter (λ x. not (p x)) (filter (λ x. not (q x)) xs) ≡ filter (λ x. not (q x || p x)) xs
filter_twice p q [] = refl
filter_twice p q (x ∷ xs) = go (q x) (p x) (filter_twice p q xs)
  where
    go : (b c : Bool) → filter (λ x. not (p x)) (filter (λ x. not (q x)) xs) ≡ filter (λ x. not (q x || p x)) xs
        → filter (λ x. not (p x)) (cond (not b) (x ∷ filter (λ x. not (q x)) xs) (filter (λ x. not (q x)) xs)) ≡ cond
        (not (b || p x)) (x ∷ filter (λ x. not (q x || p x)) xs) (filter (λ x. not (q x || p x)) xs)
    go true c more = more
    go false c more = elim (p x) as (λ b. cond (not b) (x ∷ filter (λ x. not (p x)) (filter (λ x. not (q x)) xs))
        (filter (λ x. not (p x)) (filter (λ x. not (q x)) xs)) ≡ cond (not b) (x ∷ filter (λ x. not (q x || p x)) xs)
        (filter (λ x. not (q x || p x)) xs)) [ true ↦ more | false ↦ ap (λ l. x ∷ l) more ]

without_is : (ids : List ℤ) (rows : List Row) → without_all rows ids ≡ filter
    (λ r. not (list_any (λ id. has_rowid id r) ids)) rows
without_is [] rows = sym (keep_all rows)
without_is (id ∷ ids) rows = without_is ids (without_rowid id rows)
    ∙ filter_twice (λ r. list_any (λ i. has_rowid i r) ids) (has_rowid id) rows

pub filter_alike : {X : Type 0} (p q : X → Bool) (xs : List X) → ((x : X) → Has xs x → p x ≡ q x)
    → filter p xs ≡ filter q xs
filter_alike p q [] same = refl
filter_alike p q (x ∷ xs) same = rw (same x (inl refl), filter_alike p q xs (λ y h. same y (inr h))) refl

pub equal_is : (o : Ordering) → is_eq o ≡ true → o ≡ Equal
equal_is Less h = absurd (cc)
equal_is Equal h = refl
equal_is Greater h = absurd (cc)

pub own_id : (r : Row) → is_int (rowid r) ≡ true → has_rowid (id_in (rowid r)) r ≡ true
own_id r int = ap (λ v. is_eq (value_cmp (rowid r) v)) (sym (int_is (rowid r) int))
    ∙ ap is_eq (tied_itself value_cmp_total (rowid r))

module _ (p : Row → Bool) (rows : List Row) (up : IsTable rows)
    (ints : (r : Row) → Has rows r → is_int (rowid r) ≡ true) where
  abbrev picked : List ℤ
  picked = map (λ r. id_in (rowid r)) (filter p rows)

  abbrev hit : Row → Bool
  hit r = list_any (λ id. has_rowid id r) picked

  hits : (r : Row) → Has rows r → p r ≡ true → hit r ≡ true
  hits r here hits_it = some_from (λ id. has_rowid id r) picked (id_in (rowid r))
      (mapped_has (λ s. id_in (rowid s)) (filter p rows) r (has_kept p rows r here hits_it)) (own_id r (ints r here))

  from_map : (xs : List Row) (id : ℤ) → Has (map (λ r. id_in (rowid r)) xs) id → (s : Row) × Has xs s
      × (id ≡ id_in (rowid s))
  from_map [] id h = absurd h
  from_map (x ∷ xs) id (inl e) = (x, inl refl, e)
  from_map (x ∷ xs) id (inr h) = let it = from_map xs id h in (it.0, inr it.1, it.2)

  was_hit : (r : Row) → Has rows r → hit r ≡ true → p r ≡ true
  was_hit r here hits_it =
      let some = some_has (λ id. has_rowid id r) picked hits_it in
      let of = from_map (filter p rows) some.0 some.1 in
      let kept = has_filtered p rows of.0 of.1 in
      let tie : is_eq (value_cmp (rowid r) (rowid of.0)) ≡ true = ap (λ v. is_eq (value_cmp (rowid r) v))
      (int_is (rowid of.0) (ints of.0 kept.0) ∙ ap Int (sym of.2)) ∙ some.2 in
      ap p (tied_same rows r of.0 up here kept.0 (equal_is _ tie)) ∙ kept.1

  any_is : (r : Row) → Has rows r → hit r ≡ p r
  any_is r here = elim (cases_Bool (p r)) [
    | inl hits_it ↦ hits r here hits_it ∙ sym hits_it
    | inr none ↦ elim (cases_Bool (hit r)) [ inl was ↦ was ∙ sym (was_hit r here was) | inr never ↦ never ∙ sym none ]
  ]

  -- the rows without those whose rowids were selected
  pub left_is : (ids : List ℤ) → IsPermutation picked ids → without_all rows ids ≡ filter (λ r. not (p r)) rows
  left_is ids same =
      without_is ids rows ∙ filter_alike (λ r. not (list_any (λ id. has_rowid id r) ids)) (λ r. not (p r)) rows
      (λ r here. ap not (list_any-IsPermutation (λ id. has_rowid id r) ids picked (IsPermutation-sym _ _ same))
      ∙ ap not (any_is r here))

pub filter_table : (p : Row → Bool) (rows : List Row) → IsTable rows → IsTable (filter p rows)
filter_table p [] up = tt
filter_table p (r ∷ rows) up = elim (cases_Bool (p r)) [
  | inl e ↦ rw e (
    all_from _ (filter p rows) (λ y h. all_has _ rows y up.0 (has_filtered p rows y h).0),
    filter_table p rows up.1,
  )
  | inr e ↦ rw e (filter_table p rows up.1)
]

pub mapped_from : {X Y : Type 0} (f : X → Y) (xs : List X) (y : Y) → Has (map f xs) y → (x : X) × Has xs x × (y ≡ f x)
mapped_from f [] y h = absurd h
mapped_from f (x ∷ xs) y (inl e) = (x, inl refl, e)
mapped_from f (x ∷ xs) y (inr h) = let it = mapped_from f xs y h in (it.0, inr it.1, it.2)

-- each row is that of a record
pub of_record : {X : Type 0} (cells : X → Row) (places : List ℕ) (rows : List Row) (xs : List X) (r : Row)
    → Lists cells places rows xs → Has rows r → (x : X) × Has xs x × (at_places places r ≡ cells x)
of_record cells places rows xs r h here = mapped_from cells xs (at_places places r)
    (all_has (Has (map cells xs)) (map (at_places places) rows) (at_places places r)
    (all-permutation (Has (map cells xs)) (map cells xs) (map (at_places places) rows) h.same
    (all_from (Has (map cells xs)) (map cells xs) (λ e k. k)))
    (mapped_has (at_places places) rows r here))

-- each record has a row
pub of_row : {X : Type 0} (cells : X → Row) (places : List ℕ) (rows : List Row) (xs : List X) (x : X)
    → Lists cells places rows xs → Has xs x → (r : Row) × Has rows r × (at_places places r ≡ cells x)
of_row cells places rows xs x h here =
    let found = mapped_from (at_places places) rows (cells x)
    (all_has (Has (map (at_places places) rows)) (map cells xs) (cells x)
    (all-permutation (Has (map (at_places places) rows)) (map (at_places places) rows) (map cells xs)
    (IsPermutation-sym _ _ h.same)
    (all_from (Has (map (at_places places) rows)) (map (at_places places) rows) (λ e k. k)))
    (mapped_has cells xs x here)) in
    (found.0, found.1, sym found.2)

-- ---- UPDATE

given : (rows news : List Row) → numbered Given rows news ≡ news
given rows [] = refl
given rows (r ∷ rs) = ap (λ x. r ∷ x) (given (put_row r rows) rs)

and_parts : (a b : Bool) → (not a && b) ≡ true → (a ≡ false) × (b ≡ true)
and_parts true b h = absurd (let e = h in cc)
and_parts false b h = (refl, h)

put_all_adds : (news rows : List Row) → are_fresh rows news ≡ true → IsPermutation (news ++ rows) (put_all rows news)
put_all_adds [] rows free = IsPermutation-refl rows
put_all_adds (n ∷ news) rows free =
    let parts = and_parts (is_taken rows n) (are_fresh (put_row n rows) news) free in
    IsPermutation-trans (n ∷ (news ++ rows)) (news ++ put_row n rows) (put_all (put_row n rows) news)
    (IsPermutation-trans (n ∷ (news ++ rows)) (news ++ (n ∷ rows)) (news ++ put_row n rows)
    (IsPermutation-sym _ _ (IsPermutation-middle news n rows))
    (IsPermutation-append_right news (n ∷ rows) (put_row n rows) (put_adds n rows parts.0)))
    (put_all_adds news (put_row n rows) parts.1)

pub put_all_table : (news rows : List Row) → IsTable rows → IsTable (put_all rows news)
put_all_table [] rows up = up
put_all_table (n ∷ news) rows up = put_all_table news (put_row n rows) (IsTable-put_row n rows up)

-- each record that passes is changed
mixed : {X : Type 0} (p : X → Bool) (u : X → X) (xs : List X)
    → IsPermutation (map (λ x. cond (p x) (u x) x) xs) (map u (filter p xs) ++ filter (λ x. not (p x)) xs)
mixed p u [] = IsPermutation-refl []
mixed p u (x ∷ xs) = go (p x) (mixed p u xs)
  where
    go : (b : Bool) → IsPermutation (map (λ x. cond (p x) (u x) x) xs)
        (map u (filter p xs) ++ filter (λ x. not (p x)) xs)
        → IsPermutation (cond b (u x) x ∷ map (λ x. cond (p x) (u x) x) xs)
        (map u (cond b (x ∷ filter p xs) (filter p xs)) ++ cond (not b) (x ∷ filter (λ x. not (p x)) xs)
        (filter (λ x. not (p x)) xs))
    go true more = IsPermutation-cons (u x) _ _ more
    go false more = IsPermutation-trans _ (x ∷ (map u (filter p xs) ++ filter (λ x. not (p x)) xs)) _
        (IsPermutation-cons x _ _ more)
        (IsPermutation-sym _ _ (IsPermutation-middle (map u (filter p xs)) x (filter (λ x. not (p x)) xs)))

without_all_table : (ids : List ℤ) (rows : List Row) → IsTable rows → IsTable (without_all rows ids)
without_all_table [] rows up = up
without_all_table (id ∷ ids) rows up = without_all_table ids (without_rowid id rows) (filter_table _ rows up)

map_alike : {X Y : Type 0} (f g : X → Y) (xs : List X) → ((x : X) → Has xs x → f x ≡ g x) → map f xs ≡ map g xs
map_alike f g [] same = refl
map_alike f g (x ∷ xs) same = rw (same x (inl refl), map_alike f g xs (λ y h. same y (inr h))) refl

-- the changed rows are the changed records
pub lists_updated : {X : Type 0} (cells : X → Row) (places : List ℕ) (mine : X → Bool) (u : X → X)
    (tests : Row → Bool) (change : Row → Row) (new : Row → Row)
    → ((x : X) → tests (cells x) ≡ mine x) → ((x : X) → change (cells x) ≡ cells (u x))
    → (rows after : List Row) (xs : List X) → Lists cells places rows xs
    → ((r : Row) → Has rows r → at_places places (new r) ≡ change (at_places places r))
    → IsPermutation (map new (filter (λ r. tests (at_places places r)) rows) ++ filter
    (λ r. not (tests (at_places places r))) rows) after
    → IsPermutation (map cells (map (λ x. cond (mine x) (u x) x) xs)) (map (at_places places) after)
lists_updated {X} cells places mine u tests change new tested changed rows after xs h news same =
    let T = at_places places in
    let F = filter (λ r. tests (T r)) rows in
    let N = filter (λ r. not (tests (T r))) rows in
    let late = λ (vs : List Row). map change (filter tests vs) ++ filter (λ v. not (tests v)) vs in
    let made : map T (map new F) ≡ map change (filter tests (map T rows)) =
    map-map T new F ∙ map_alike (λ r. T (new r)) (λ r. change (T r)) F
    (λ r here. news r (has_filtered (λ r. tests (T r)) rows r here).0) ∙ sym (map-map change T F)
    ∙ ap (map change) (sym (filter-map tests T rows)) in
    let e1 : map T (map new F ++ N) ≡ late (map T rows) = map-append T (map new F) N
    ∙ ap₂ ◌++◌ made (sym (filter-map (λ v. not (tests v)) T rows)) in
    let turned : map change (filter tests (map cells xs)) ≡ map cells (map u (filter mine xs)) =
    ap (map change) (filter-map tests cells xs) ∙ map-map change cells (filter (λ x. tests (cells x)) xs)
    ∙ (λ i. map (λ x. changed x i) (filter (λ x. tested x i) xs)) ∙ sym (map-map cells u (filter mine xs)) in
    let kept : filter (λ v. not (tests v)) (map cells xs) ≡ map cells (filter (λ x. not (mine x)) xs) =
    filter-map (λ v. not (tests v)) cells xs ∙ (λ i. map cells (filter (λ x. not (tested x i)) xs)) in
    let e2 : late (map cells xs) ≡ map cells (map u (filter mine xs) ++ filter (λ x. not (mine x)) xs) = ap₂ ◌++◌
    turned kept ∙ sym (map-append cells (map u (filter mine xs)) (filter (λ x. not (mine x)) xs)) in
    let p1 : IsPermutation (late (map T rows)) (map T after) = subst (λ l. IsPermutation l (map T after)) e1
    (IsPermutation-map T _ _ same) in
    let p2 : IsPermutation (late (map cells xs)) (late (map T rows)) = IsPermutation-append _ _ _ _
    (IsPermutation-map change _ _ (IsPermutation-filter tests _ _ h.same))
    (IsPermutation-filter (λ v. not (tests v)) _ _ h.same) in
    let p3 : IsPermutation (map cells (map (λ x. cond (mine x) (u x) x) xs)) (late (map cells xs)) = subst
    (IsPermutation (map cells (map (λ x. cond (mine x) (u x) x) xs))) (sym e2)
    (IsPermutation-map cells _ _ (mixed mine u xs)) in
    IsPermutation-trans _ (late (map cells xs)) _ p3 (IsPermutation-trans _ (late (map T rows)) _ p2 p1)

-- UPDATE .. WHERE: a row of its query is the old rowid followed by the new row, `new`
module _ (schema : Schema) (table : Table) (db after : Trees) (rows : List Row) (p : Row → Bool) (new : Row → Row)
    (up : IsTable (db table.tree)) (ints : (r : Row) → Has (db table.tree) r → is_int (rowid r) ≡ true)
    (all : IsPermutation (map (λ r. rowid r ∷ new r) (filter p (db table.tree))) rows)
    (did : Applies schema Enforced db (edit_of db table (ids_of rows) Given 1 rows) after) where
  abbrev old : List Row
  old = db table.tree

  abbrev news : List Row
  news = map (λ s. cast_row table (drop 1 s)) rows

  pub updated : IsPermutation (map (λ r. cast_row table (new r)) (filter p old) ++ filter (λ r. not (p r)) old)
      (after table.tree)
  updated =
      let ids : IsPermutation (map (λ r. id_in (rowid r)) (filter p old)) (ids_of rows) =
      subst (λ l. IsPermutation l (ids_of rows)) (map-map (λ r. id_in (rowid r)) (λ r. rowid r ∷ new r) (filter p old))
      (IsPermutation-map (λ r. id_in (rowid r)) _ _ all) in
      let left = left_is p old up ints (ids_of rows) ids in
      let made : IsPermutation (map (λ r. cast_row table (new r)) (filter p old)) news =
      subst (λ l. IsPermutation l news) (map-map (λ s. cast_row table (drop 1 s)) (λ r. rowid r ∷ new r) (filter p old))
      (IsPermutation-map (λ s. cast_row table (drop 1 s)) _ _ all) in
      let fresh : are_fresh (without_all old (ids_of rows)) news ≡ true = subst
      (λ l. are_fresh (without_all old (ids_of rows)) l ≡ true) (given _ news) did.fresh in
      let put : IsPermutation (news ++ without_all old (ids_of rows)) (put_all (without_all old (ids_of rows)) news) =
      put_all_adds news (without_all old (ids_of rows)) fresh in
      let is : after table.tree ≡ put_all (without_all old (ids_of rows)) news = did.rows
      ∙ ap (put_all (without_all old (ids_of rows))) (given _ news) in
      IsPermutation-trans _ (news ++ without_all old (ids_of rows)) _
      (subst (λ l. IsPermutation (map (λ r. cast_row table (new r)) (filter p old) ++ l)
      (news ++ without_all old (ids_of rows))) left
      (IsPermutation-append_left (without_all old (ids_of rows)) _ _ made))
      (subst (IsPermutation (news ++ without_all old (ids_of rows))) (sym is) put)

  pub updated_apart : IsTable (after table.tree)
  updated_apart = subst IsTable (sym did.rows) (put_all_table (edit_of db table (ids_of rows) Given 1 rows).news
      (left_by db (edit_of db table (ids_of rows) Given 1 rows)) (without_all_table (ids_of rows) old up))

-- ---- UPDATE of the rows that pass a test

-- each struct that passes is changed: `next_row` is a row's new row
pub lists_changed : {X : Type 0} (cells : X → Row) (places : List ℕ) (table : Table) (db after : Trees)
    (rows : List Row) (xs : List X) (mine : X → Bool) (u : X → X)
    (tests : Row → Bool) (change next_row : Row → Row) → ((x : X) → tests (cells x) ≡ mine x)
    → ((x : X) → change (cells x) ≡ cells (u x))
    → ((x : X) (r : Row) → at_places places r ≡ cells x → is_int (rowid r) ≡ true)
    → ((x : X) (r : Row) → at_places places r ≡ cells x
    → at_places places (cast_row table (next_row r)) ≡ change (at_places places r))
    → Lists cells places (db table.tree) xs → IsPermutation
    (map (λ r. rowid r ∷ next_row r) (filter (λ r. tests (at_places places r)) (db table.tree))) rows
    → Applies whole Enforced db (edit_of db table (ids_of rows) Given 1 rows) after
    → Lists cells places (after table.tree) (map (λ x. cond (mine x) (u x) x) xs)
lists_changed cells places table db after rows xs mine u tests change next_row tested changed int back h all did =
    let p = λ (r : Row). tests (at_places places r) in
    let each = λ (r : Row) (here : Has (db table.tree) r). of_record cells places (db table.tree) xs r h here in
    let ints = λ (r : Row) (here : Has (db table.tree) r). let it = each r here in int it.0 r it.2 in
    let news = λ (r : Row) (here : Has (db table.tree) r). let it = each r here in back it.0 r it.2 in
    record {
      same = lists_updated cells places mine u tests change (λ r. cast_row table (next_row r)) tested changed
          (db table.tree) (after table.tree) xs h news
          (updated whole table db after rows p next_row h.apart ints all did);
      apart = updated_apart whole table db after rows p next_row h.apart ints all did;
    }

-- Departments put in their places.
use Rattle.memory_store.proofs.Words.{Bool, Department, Equal, Greater, Less, List, Ordering, [], and_parts, ap}
use Rattle.memory_store.proofs.Words.{bytes_eq, cond, entries, false, insert, is_some_named, is_eq}
use Rattle.memory_store.proofs.Words.{is_eq-slice_cmp, is_gt, length, list_all, nat_cmp, nat_list_eq_equiv, place_of}
use Rattle.memory_store.proofs.Words.{put, refl, slice_cmp, slice_get, slice_set, suc, sym, take_while, take_while-cons}
use Rattle.memory_store.proofs.Words.{true, ℕ, ◌∙◌, ◌∷◌, ◌≡◌}
use Rattle.std.proofs.Common.{map, ◌&&◌}
use Rattle.std.specs.FinMap.Entries.{by_order}
use Rattle.std.proofs.lemmas.Bool.{and_from}
use Rattle.std.proofs.lemmas.Slice.Eq.{bytes_eq-Decides}
use Rattle.memory_store.specs.Departments.{entry, is_before}

place-cons : (d : Department) (ds : List Department) (name : List ℕ) → place_of (d ∷ ds) name ≡ cond (is_before d name) (suc (place_of ds name)) 0
place-cons d ds name =
    ap length (take_while-cons (λ d. is_before d name) d ds)
    ∙ elim (is_before d name) as (λ b. length (cond b (d ∷ take_while (λ d. is_before d name) ds) []) ≡ cond b (suc (place_of ds name)) 0) [ true ↦ refl | false ↦ refl ]

-- equal names tie, and names that tie are equal
pub tie_is : (xs ys : List ℕ) (o : Ordering) → slice_cmp nat_cmp xs ys ≡ o → bytes_eq xs ys ≡ is_eq o
tie_is xs ys o e = sym (is_eq-slice_cmp xs ys) ∙ ap is_eq e

same_bytes : (xs ys : List ℕ) → bytes_eq xs ys ≡ true → xs ≡ ys
same_bytes xs ys e = (bytes_eq-Decides xs ys).0 e

-- if the department at the place has the name, it is replaced
pub put_replaced : (v : Department) (ds : List Department) → is_some_named (slice_get ds (place_of ds v.name)) v.name ≡ true
    → entries (slice_set ds (place_of ds v.name) v) ≡ put (slice_cmp nat_cmp) v.name v (entries ds)
put_replaced v [] is = absurd cc
put_replaced v (d ∷ ds) is = by_case (slice_cmp nat_cmp v.name d.name) (put_replaced v ds) refl
  where
    by_case : (o : Ordering)
        → (is_some_named (slice_get ds (place_of ds v.name)) v.name ≡ true → entries (slice_set ds (place_of ds v.name) v) ≡ put (slice_cmp nat_cmp) v.name v (entries ds))
        → slice_cmp nat_cmp v.name d.name ≡ o → entries (slice_set (d ∷ ds) (place_of (d ∷ ds) v.name) v) ≡ put (slice_cmp nat_cmp) v.name v (entries (d ∷ ds))
    by_case Less rest e =
        let zero : place_of (d ∷ ds) v.name ≡ 0 = place-cons d ds v.name ∙ ap (λ (o : Ordering). cond (is_gt o) (suc (place_of ds v.name)) 0) e in
        let tied : bytes_eq v.name d.name ≡ true = nat_list_eq_equiv.symm v.name d.name ∙ (rw zero at is) in
        let apart : bytes_eq v.name d.name ≡ false = tie_is v.name d.name Less e in
        absurd cc
    by_case Equal rest e =
        let zero : place_of (d ∷ ds) v.name ≡ 0 = place-cons d ds v.name ∙ ap (λ (o : Ordering). cond (is_gt o) (suc (place_of ds v.name)) 0) e in
        rw (zero, e) (ap (λ (n : List ℕ). (n, v) ∷ entries ds) (same_bytes v.name d.name (tie_is v.name d.name Equal e)))
    by_case Greater rest e =
        let more : place_of (d ∷ ds) v.name ≡ suc (place_of ds v.name) = place-cons d ds v.name ∙ ap (λ (o : Ordering). cond (is_gt o) (suc (place_of ds v.name)) 0) e in
        rw (more, e) (ap (λ (es : List (List ℕ × Department)). entry d ∷ es) (rest (rw more at is)))

-- if it doesn't, the new one is inserted before it
pub put_inserted : (v : Department) (ds : List Department) → is_some_named (slice_get ds (place_of ds v.name)) v.name ≡ false
    → entries (insert ds (place_of ds v.name) v) ≡ put (slice_cmp nat_cmp) v.name v (entries ds)
put_inserted v [] is = refl
put_inserted v (d ∷ ds) is = by_case (slice_cmp nat_cmp v.name d.name) (put_inserted v ds) refl
  where
    by_case : (o : Ordering)
        → (is_some_named (slice_get ds (place_of ds v.name)) v.name ≡ false → entries (insert ds (place_of ds v.name) v) ≡ put (slice_cmp nat_cmp) v.name v (entries ds))
        → slice_cmp nat_cmp v.name d.name ≡ o → entries (insert (d ∷ ds) (place_of (d ∷ ds) v.name) v) ≡ put (slice_cmp nat_cmp) v.name v (entries (d ∷ ds))
    by_case Less rest e =
        let zero : place_of (d ∷ ds) v.name ≡ 0 = place-cons d ds v.name ∙ ap (λ (o : Ordering). cond (is_gt o) (suc (place_of ds v.name)) 0) e in
        rw (zero, e) refl
    by_case Equal rest e =
        let zero : place_of (d ∷ ds) v.name ≡ 0 = place-cons d ds v.name ∙ ap (λ (o : Ordering). cond (is_gt o) (suc (place_of ds v.name)) 0) e in
        let tied : bytes_eq d.name v.name ≡ true = nat_list_eq_equiv.symm d.name v.name ∙ tie_is v.name d.name Equal e in
        let apart : bytes_eq d.name v.name ≡ false = rw zero at is in
        absurd cc
    by_case Greater rest e =
        let more : place_of (d ∷ ds) v.name ≡ suc (place_of ds v.name) = place-cons d ds v.name ∙ ap (λ (o : Ordering). cond (is_gt o) (suc (place_of ds v.name)) 0) e in
        rw (more, e) (ap (λ (es : List (List ℕ × Department)). entry d ∷ es) (rest (rw more at is)))

-- ---- departments that pass a test

abbrev values : List (List ℕ × Department) → List Department
values es = map (λ e. e.1) es

pub values-entries : (ds : List Department) → values (entries ds) ≡ ds
values-entries [] = refl
values-entries (d ∷ ds) = ap (λ (xs : List Department). d ∷ xs) (values-entries ds)

all_put : (p : Department → Bool) (k : List ℕ) (d : Department) (es : List (List ℕ × Department)) → p d ≡ true → list_all p (values es) ≡ true
    → list_all p (values (put (slice_cmp nat_cmp) k d es)) ≡ true
all_put p k d [] one all = and_from (p d) true one refl
all_put p k d (e ∷ es) one all =
    let parts = and_parts (p e.1) (list_all p (values es)) all in
    let later = all_put p k d es one parts.1 in
    elim (slice_cmp nat_cmp k e.0) as (λ o. list_all p (values (by_order o ((k, d) ∷ e ∷ es) ((e.0, d) ∷ es) (e ∷ put (slice_cmp nat_cmp) k d es))) ≡ true) [
      | Less ↦ and_from (p d) (p e.1 && list_all p (values es)) one all
      | Equal ↦ and_from (p d) (list_all p (values es)) one parts.1
      | Greater ↦ and_from (p e.1) (list_all p (values (put (slice_cmp nat_cmp) k d es))) parts.0 later
    ]

-- if a department that passes is put among departments that pass, all of them pass
pub all_after_put : (p : Department → Bool) (d : Department) (old new : List Department) → p d ≡ true → list_all p old ≡ true
    → entries new ≡ put (slice_cmp nat_cmp) d.name d (entries old) → list_all p new ≡ true
all_after_put p d old new one all is =
    let old_values : list_all p (values (entries old)) ≡ true = rw (values-entries old) all in
    let same : new ≡ values (put (slice_cmp nat_cmp) d.name d (entries old)) = sym (values-entries new) ∙ ap values is in
    rw same (all_put p d.name d (entries old) one old_values)

-- Putting a department in place of the one with its name.
use Rattle.store.proofs.Words.{AllByRecursion, Bool, Department, DepartmentRow, Equal, Greater, IsAscending}
use Rattle.store.proofs.Words.{IsPermutation, IsPermutation-refl, Less, List, Ordering, [], all_weaker, and_parts, ap}
use Rattle.store.proofs.Words.{are_extension_names, are_namespaces, are_option_names, arith, bytes_eq, bytes_eq-Decides}
use Rattle.store.proofs.Words.{department_row, false, filter, has_name, is_department, is_eq, is_eq-slice_cmp, is_name}
use Rattle.store.proofs.Words.{map, nat_cmp, nat_list_cmp_total, nat_list_eq_equiv, nat_tests, not, put, refl}
use Rattle.store.proofs.Words.{slice_cmp, subst, sym, true, ℕ, ◌&&◌, ◌<◌, ◌^◌, ◌∙◌, ◌∷◌, ◌≡◌}
use Rattle.sqlite_trees.proofs.ListLemmas.{all-map, filter_all}
use Rattle.message.specs.Values.{are_administrators}
use Rattle.message.specs.Values.{are_demands, are_key_types_or_none}
use Rattle.message.specs.Values.{are_rules, fits_bare_name, fits_kind, has_bare_name, is_longest_life}
use Rattle.store.proofs.Spans.{moved}
use Rattle.store.proofs.DepartmentRows.{department_rows}

abbrev lacks : List ℕ → DepartmentRow → Bool
lacks name e = not (has_name name e)

-- names compare as equal exactly when they are equal
pub tied : (xs ys : List ℕ) (o : Ordering) → slice_cmp nat_cmp xs ys ≡ o → bytes_eq xs ys ≡ is_eq o
tied xs ys o e = sym (is_eq-slice_cmp xs ys) ∙ ap is_eq e

lacks_one : (name other : List ℕ) → bytes_eq name other ≡ false → not (bytes_eq other name) ≡ true
lacks_one name other e = ap not (nat_list_eq_equiv.symm other name ∙ e)

-- departments with greater names have other names
all_lack : (name : List ℕ) (es : List (List ℕ × Department))
    → AllByRecursion (λ e. slice_cmp nat_cmp name e.1.name ≡ Less) es
    → filter (lacks name) (department_rows es) ≡ department_rows es
all_lack name es above =
    filter_all (lacks name) (department_rows es) (all-map (λ row. lacks name row ≡ true) (λ e. department_row e.1) es
    (all_weaker (λ e. slice_cmp nat_cmp name e.1.name ≡ Less) (λ e. lacks name (department_row e.1) ≡ true)
    (λ e less. lacks_one name e.1.name (tied name e.1.name Less less)) es above))

-- the department and those with other names are the departments after it is put
pub put_named : (d : Department) (es : List (List ℕ × Department))
    → AllByRecursion (λ e. (is_department e.1 ≡ true) × (e.0 ≡ e.1.name)) es
    → IsAscending (λ a b. slice_cmp nat_cmp a.1.name b.1.name ≡ Less) es
    → IsPermutation (department_row d ∷ filter (λ e. not (has_name d.name e)) (map (λ e. department_row e.1) es))
    (map (λ e. department_row e.1) (put (slice_cmp nat_cmp) d.name d es))
put_named d [] all up = IsPermutation-refl _
put_named d (e ∷ es) all up = by_case (put_named d es all.1 up.1) (slice_cmp nat_cmp d.name e.0) refl
  where
    by_case : IsPermutation (department_row d ∷ filter (lacks d.name) (department_rows es))
        (department_rows (put (slice_cmp nat_cmp) d.name d es))
        → (o : Ordering) → slice_cmp nat_cmp d.name e.0 ≡ o
        → IsPermutation (department_row d ∷ filter (lacks d.name) (department_rows (e ∷ es)))
        (department_rows (put (slice_cmp nat_cmp) d.name d (e ∷ es)))
    by_case rest Less is =
        let less : slice_cmp nat_cmp d.name e.1.name ≡ Less = ap (slice_cmp nat_cmp d.name) (sym all.0.1) ∙ is in
        let others = all_lack d.name es (all_weaker (λ f. slice_cmp nat_cmp e.1.name f.1.name ≡ Less)
        (λ f. slice_cmp nat_cmp d.name f.1.name ≡ Less)
        (λ f. nat_list_cmp_total.trans d.name e.1.name f.1.name less) es up.0) in
        rw (is, lacks_one d.name e.1.name (tied d.name e.1.name Less less), others) (IsPermutation-refl _)
    by_case rest Equal is =
        let same : bytes_eq d.name e.1.name ≡ true =
        ap (bytes_eq d.name) (sym all.0.1) ∙ tied d.name e.0 Equal is in
        let name : d.name ≡ e.1.name = (bytes_eq-Decides d.name e.1.name).0 same in
        let others = all_lack d.name es
        (subst (λ (n : List ℕ). AllByRecursion (λ f. slice_cmp nat_cmp n f.1.name ≡ Less) es) (sym name) up.0) in
        rw (is, nat_list_eq_equiv.symm e.1.name d.name ∙ same, others) (IsPermutation-refl _)
    by_case rest Greater is =
        let other : bytes_eq d.name e.1.name ≡ false =
        ap (bytes_eq d.name) (sym all.0.1) ∙ tied d.name e.0 Greater is in
        rw (is, lacks_one d.name e.1.name other)
        (moved (department_row d) (department_row e.1) (filter (lacks d.name) (department_rows es))
        (department_rows (put (slice_cmp nat_cmp) d.name d es)) rest)

-- ---- the longest lifetime

eighth : (a b c e m f t l r : Bool) → (a && (b && (c && (e && (m && (f && (t && (l && r)))))))) ≡ true → l ≡ true
eighth a b c e m f t l r is =
    let third = and_parts c _ (and_parts b _ (and_parts a _ is).1).1 in
    let sixth = and_parts f _ (and_parts m _ (and_parts e _ third.1).1).1 in
    (and_parts l r (and_parts t _ sixth.1).1).0

low : (n : ℕ) → is_longest_life n ≡ true → n < 2 ^ 63
low n is = grind (arith, nat_tests)

-- it is a number that a column can hold
pub life_fits : (d : Department) → is_department d ≡ true → d.longest_life < 2 ^ 63
life_fits d is =
    low d.longest_life (eighth (is_name d.name) (are_administrators d.administrators) (are_rules d.rules)
    (are_option_names d.options && fits_kind d.kind d.options) (are_demands d.kind d.demands)
    (are_extension_names d.extensions && fits_kind d.kind d.extensions) (are_key_types_or_none d.key_types)
    (is_longest_life d.longest_life)
    (are_namespaces d.namespaces
    && (fits_kind d.kind d.namespaces && fits_bare_name (has_bare_name d.rules) d.namespaces)) is)

-- The department with a given name among the rows.
use Rattle.store.proofs.Words.{AllByRecursion, Department, IsAscending, IsLawful, Kept, Less, List, Some, State, [], ap}
use Rattle.store.proofs.Words.{bytes_eq, bytes_eq-Decides, cases_Bool, contents_of, department_named, department_of_row}
use Rattle.store.proofs.Words.{department_row, departments_named, false, filter, has_name, inl, inr, is_department}
use Rattle.store.proofs.Words.{is_eq, is_eq-slice_cmp, map, nat_cmp, nat_list_eq_equiv, refl, same_Some, slice_cmp}
use Rattle.store.proofs.Words.{subst, sym, true, ℕ, ◌∙◌, ◌∷◌, ◌≡◌}
use Rattle.std.specs.FinMap.Entries.{find}
use Rattle.store.proofs.DepartmentRows.{row_again}
use Rattle.store.proofs.OneRow.{rows_of}

abbrev Entry : Type 0
Entry = List ℕ × Department

abbrev IsEntry : Entry → Type 0
IsEntry e = (is_department e.1 ≡ true) × (e.0 ≡ e.1.name)

abbrev IsBelow : Entry → Entry → Type 0
IsBelow a b = slice_cmp nat_cmp a.1.name b.1.name ≡ Less

-- a name that comes after this one is another name
apart : (name other : List ℕ) → slice_cmp nat_cmp name other ≡ Less → bytes_eq other name ≡ false
apart name other less = nat_list_eq_equiv.symm other name ∙ sym (is_eq-slice_cmp name other) ∙ ap is_eq less

none_after : (name : List ℕ) (d : Department) (es : List Entry) → d.name ≡ name
    → AllByRecursion (IsBelow (d.name, d)) es
    → filter (has_name name) (map (λ e. department_row e.1) es) ≡ []
none_after name d [] is above = refl
none_after name d (e ∷ es) is above =
    rw (apart name e.1.name (rw is at above.0)) (none_after name d es is above.1)

named_in : (name : List ℕ) (es : List Entry) → AllByRecursion IsEntry es → IsAscending IsBelow es
    → filter (has_name name) (map (λ e. department_row e.1) es) ≡ rows_of department_row
    (find (slice_cmp nat_cmp) name es)
named_in name [] all up = refl
named_in name (e ∷ es) all up = elim (cases_Bool (bytes_eq e.1.name name)) [
  | inl is ↦ rw (here, is) (ap (λ (l : List _). department_row e.1 ∷ l)
      (none_after name e.1 es ((bytes_eq-Decides e.1.name name).0 is) up.0))
  | inr is ↦ rw (here, is) (named_in name es all.1 up.1)
]
  where
    here : is_eq (slice_cmp nat_cmp name e.0) ≡ bytes_eq e.1.name name
    here =
        is_eq-slice_cmp name e.0 ∙ nat_list_eq_equiv.symm name e.0 ∙ ap (λ (n : List ℕ). bytes_eq n name) all.0.1

-- one row has the name if a department has it, and otherwise none
pub named : (name : List ℕ) (s : State) (kept : List Kept) → IsLawful s
    → departments_named name (contents_of s kept) ≡ rows_of department_row (department_named s name)
named name s kept lawful = named_in name s.departments lawful.departments lawful.names

found_lawful : (name : List ℕ) (es : List Entry) (d : Department) → AllByRecursion IsEntry es
    → find (slice_cmp nat_cmp) name es ≡ Some d → is_department d ≡ true
found_lawful name [] d all is = absurd cc
found_lawful name (e ∷ es) d all is = elim (cases_Bool (is_eq (slice_cmp nat_cmp name e.0))) [
  | inl here ↦ subst (λ (x : Department). is_department x ≡ true) (same_Some _ _ (rw here at is)) all.0.0
  | inr other ↦ found_lawful name es d all.1 (rw other at is)
]

pub department_again : (name : List ℕ) (s : State) (d : Department) → IsLawful s → department_named s name ≡ Some d
    → department_of_row (department_row d) ≡ Some d
department_again name s d lawful is = row_again d (found_lawful name s.departments d lawful.departments is)

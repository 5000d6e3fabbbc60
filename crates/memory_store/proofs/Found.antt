-- Finding departments by name.
use Rattle.memory_store.proofs.Words.{Bool, Department, IfSome, IsTrue, List, Some, [], and_parts, bytes_eq, cond}
use Rattle.memory_store.proofs.Words.{entries, false, find, has_department_name, is_department, is_eq, is_eq-slice_cmp}
use Rattle.memory_store.proofs.Words.{list_all, nat_cmp, nat_list_eq_equiv, refl, slice_cmp, true, ℕ, ◌∙◌, ◌∷◌, ◌≡◌}
use Rattle.std.specs.FinMap.Entries as entry

-- the department with a name is found among the entries
pub find-entries : (name : List ℕ) (ds : List Department) → entry.find (slice_cmp nat_cmp) name (entries ds) ≡ find (λ d. has_department_name d name) ds
find-entries name [] = refl
find-entries name (d ∷ ds) =
    let here : is_eq (slice_cmp nat_cmp name d.name) ≡ bytes_eq d.name name = is_eq-slice_cmp name d.name ∙ nat_list_eq_equiv.symm name d.name in
    rw (here, find-entries name ds) refl

-- a department found among valid departments is valid
pub found_lawful : (p : Department → Bool) (ds : List Department) → list_all is_department ds ≡ true → IfSome (find p ds) (λ d. IsTrue (is_department d))
found_lawful p [] all = tt
found_lawful p (d ∷ ds) all =
    let parts = and_parts (is_department d) (list_all is_department ds) all in
    elim (p d) as (λ b. IfSome (cond b (Some d) (find p ds)) (λ d. IsTrue (is_department d))) [ true ↦ parts.0 | false ↦ found_lawful p ds parts.1 ]

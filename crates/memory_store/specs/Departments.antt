-- Departments as entries by name.
use Rattle.std.specs.Prelude.{ℕ, List, length, map, Bool, false, Option, Some, None}
use Rattle.std.specs.List.{take_while}
use Rattle.std.specs.Ordering.{is_gt, nat_cmp}
use Rattle.std.specs.Cmp.Lexicographic.{slice_cmp}
use Rattle.std.specs.Str.{bytes_eq}
use Rattle.message.specs.declared.department.Department.{Department}

abbrev pub entry : Department → List ℕ × Department
entry d = (d.name, d)

abbrev pub entries : List Department → List (List ℕ × Department)
entries ds = map entry ds

-- the name comes after the department's, byte by byte
abbrev pub is_before : Department → List ℕ → Bool
is_before d name = is_gt (slice_cmp nat_cmp name d.name)

-- how many come before the name
abbrev pub place_of : List Department → List ℕ → ℕ
place_of ds name = length (take_while (λ d. is_before d name) ds)

-- the department has this name
abbrev pub has_department_name : Department → List ℕ → Bool
has_department_name d name = bytes_eq d.name name

abbrev pub is_some_named : Option Department → List ℕ → Bool
is_some_named (Some d) name = bytes_eq d.name name
is_some_named None name = false

-- The texts of policies.
use Rattle.std.specs.Prelude.{◌≡◌, ℕ, List, [], ◌∷◌, ◌++◌, All, false, ◌==◌, IsTrue, None}
use Rattle.std.specs.List.{flat_map, AllByRecursion}
use Rattle.message.specs.declared.department.Department.{Department}
use Rattle.message.specs.Texts.{department_lines, lines_text}
use Rattle.message.specs.Values.{is_department}
use Rattle.guard.specs.State.{department_named}
use Rattle.guard.specs.Policies.{is_between}

-- a department, and the lines before its text
pub record Part : Type 0 where
  pub before : List (List ℕ)
  pub department : Department

abbrev pub part_lines : Part → List (List ℕ)
part_lines p = p.before ++ department_lines p.department

-- the text of departments with lines between them, and lines after the last
abbrev pub policy_text : List Part → List (List ℕ) → List ℕ
policy_text parts last = lines_text (flat_map part_lines parts ++ last)

-- lines that may come between texts
abbrev pub AreBetween : List (List ℕ) → Type 0
AreBetween lines = AllByRecursion (λ l. IsTrue (is_between l) × All (λ b. (b == 10) ≡ false) l) lines

-- each department is valid, and no known or earlier one has its name
abbrev pub AreParts : (known : List Department) → List Part → Type 0
AreParts known [] = Unit {0}
AreParts known (p ∷ parts) =
    AreBetween p.before × IsTrue (is_department p.department)
    × (department_named known p.department.name ≡ None) × AreParts (known ++ p.department ∷ []) parts

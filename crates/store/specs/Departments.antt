-- Departments from rows.
use Rattle.std.specs.Prelude.{ℕ, ◌==◌, ◌≡◌, List, [], ◌∷◌, ◌++◌, drop, if◌then◌else◌, Option, Some, None, Result, Ok}
use Rattle.std.specs.Prelude.{Err}
use Rattle.std.specs.List.{slice_split}
use Rattle.std.specs.Option.{option_and_then, option_map}
use Rattle.text.specs.declared.pair.Pair.{Pair}
use Rattle.values.specs.declared.kind.Kind.{Kind}
use Rattle.message.specs.declared.department.Department.{Department}
use Rattle.message.specs.Reading.{demand_after, key_types_after}
use Rattle.message.specs.Values.{is_department}
use Rattle.store_sql.specs.declared.departments.DepartmentRow.{DepartmentRow}
use Rattle.cert.specs.Reading.{kind_of}
use Rattle.store.specs.declared.rows.department_rows.RowFault.{RowFault}
use Rattle.store.specs.declared.rows.department_rows.RowFault.TheVariants.{Damaged, NoMemory}

-- the texts between commas; none if there are no bytes
abbrev pub parted : List ℕ → List (List ℕ)
parted [] = []
parted (b ∷ text) = slice_split (λ c. c == 44) (b ∷ text)

-- the lines of a column; if it is empty, one empty line
abbrev pub lines_of : List ℕ → List (List ℕ)
lines_of column = slice_split (λ b. b == 10) column

-- the texts on the first line
abbrev pub first_parted : List (List ℕ) → List (List ℕ)
first_parted [] = []
first_parted (l ∷ ls) = parted l

-- these options that certificates must have, followed by those in the lines, if each line has one that may follow
abbrev pub demands_of : Kind → List Pair → List (List ℕ) → Option (List Pair)
demands_of kind before [] = Some before
demands_of kind before (l ∷ ls) =
    option_and_then (λ p. demands_of kind (before ++ p ∷ []) ls) (demand_after kind before l)

-- the key types in at most one line
abbrev pub key_types_of : List (List ℕ) → Option (List (List ℕ))
key_types_of [] = Some []
key_types_of (l ∷ []) = key_types_after l
key_types_of (l ∷ m ∷ ls) = None

-- what stands on the further lines of the columns of options and of extensions
abbrev pub additions_in : (options extensions : List (List ℕ)) → Kind → Option (List Pair × List (List ℕ))
additions_in options extensions kind =
    option_and_then (λ demands. option_map (λ key_types. (demands, key_types)) (key_types_of (drop 1 extensions)))
    (demands_of kind [] (drop 1 options))

abbrev pub additions_of : DepartmentRow → Kind → Option (List Pair × List (List ℕ))
additions_of row kind = additions_in (lines_of row.options) (lines_of row.extensions) kind

abbrev pub parts_of : DepartmentRow → Kind → List Pair × List (List ℕ) → Department
parts_of row kind additions = record {
  name = row.name;
  kind = kind;
  administrators = parted row.admins;
  rules = parted row.rules;
  options = first_parted (lines_of row.options);
  demands = additions.0;
  extensions = first_parted (lines_of row.extensions);
  key_types = additions.1;
  longest_life = row.max_life;
  namespaces = parted row.namespaces;
}

-- the department of a row, valid or not, unless its additions can't be read
abbrev pub whole_of : DepartmentRow → Kind → Option Department
whole_of row kind = option_map (parts_of row kind) (additions_of row kind)

abbrev pub if_lawful : Department → Option Department
if_lawful d = if is_department d then Some d else None

-- the valid department of a row, if there is one
abbrev pub department_of_row : DepartmentRow → Option Department
department_of_row row = option_and_then (λ kind. option_and_then if_lawful (whole_of row kind)) (kind_of row.kind)

-- this department is read, or memory is refused; if there is none, the row is reported as damaged
abbrev pub IsReadOrDamaged : Option Department → Result Department RowFault → Type 0
IsReadOrDamaged department (Ok d) = department ≡ Some d
IsReadOrDamaged department (Err NoMemory) = Unit {0}
IsReadOrDamaged department (Err Damaged) = department ≡ None

-- The contents of the office's row.
use Rattle.std.specs.Prelude.{◌≡◌, ◌==◌, ◌≤◌, ℕ, List, [], ◌∷◌, Bool, ◌&&◌, ◌||◌, not, nat_lt, if◌then◌else◌, Option, Some}
use Rattle.std.specs.Prelude.{None}
use Rattle.std.specs.Option.{option_and_then}
use Rattle.std.specs.Str.{bytes_eq}
use Rattle.values.specs.Names.{is_name}
use Rattle.lines.specs.Keys.{key_of}
use Rattle.office.specs.declared.opening.Opening.{Opening}
use Rattle.office.specs.Openings.{IsOpening}
use Rattle.values.specs.Serials.{are_serials}
use Rattle.office.specs.State.{State, next_serial}
use Rattle.store_sql.specs.declared.offices.OfficeRow.{OfficeRow}
use Rattle.store.specs.declared.rows.office_rows.Office.{Office}

-- the names of two different callers, and serials in order
abbrev pub is_opening : Opening → Bool
is_opening o = is_name o.root && (is_name o.station && (not (bytes_eq o.root o.station) && are_serials o.first o.last))

abbrev pub office_of : OfficeRow → List ℕ → Office
office_of row key = record {
  opening = record { ca = key; root = row.root; station = row.station; first = row.first; last = row.last };
  next = row.next;
  version = row.version;
  date = row.date;
}

-- the configuration is valid, and the next serial isn't before the first
abbrev pub if_office : Office → Option Office
if_office o = if not (is_opening o.opening) || nat_lt o.next o.opening.first then None else Some o

-- the office in a row, which has id 1
abbrev pub office_in : OfficeRow → Option Office
office_in row =
    if row.id == 1 then option_and_then (λ key. if_office (office_of row key)) (key_of row.ca) else None

-- the office of the row, if there is exactly one
abbrev pub only_office : List OfficeRow → Option Office
only_office [] = None
only_office (row ∷ []) = office_in row
only_office (row ∷ other ∷ rows) = None

-- the same, as a property of an office that was read
pub record IsLawfulOffice (o : Office) : Type 0 where
  pub opening : IsOpening o.opening
  pub next : o.opening.first ≤ o.next

-- its configuration and counters are the state's
pub record IsOfficeOf (o : Office) (s : State) : Type 0 where
  pub opening : o.opening ≡ s.opening
  pub next : o.next ≡ next_serial s
  pub version : o.version ≡ s.version
  pub date : o.date ≡ s.date

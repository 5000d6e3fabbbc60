-- The initial configuration of an office.
use Rattle.std.specs.Prelude.{◌≡◌, ℕ, List, length, false, ◌&&◌, not, if◌then◌else◌, IsTrue, Result, Ok}
use Rattle.std.specs.Prelude.{Err}
use Rattle.std.specs.Str.{bytes_eq}
use Rattle.values.specs.Names.{is_name}
use Rattle.values.specs.Serials.{are_serials}
use Rattle.office.specs.declared.opening.Opening.{Opening}
use Rattle.office.specs.declared.opening.OpeningFault.{OpeningFault}
use Rattle.office.specs.declared.opening.OpeningFault.TheVariants.{BadName, SameName, BadSerials}

-- the opening, or its first fault
abbrev pub made_opening : List ℕ → List ℕ → List ℕ → ℕ → ℕ → Result Opening OpeningFault
made_opening ca root station first last =
    if not (is_name root && is_name station) then Err BadName
    else if bytes_eq root station then Err SameName
    else if not (are_serials first last) then Err BadSerials
    else Ok (record { ca = ca; root = root; station = station; first = first; last = last })

-- the invariant of an opening: a key of 32 bytes, valid names of two different callers, and a valid range of serials
pub record IsOpening (o : Opening) : Type 0 where
  pub ca : length o.ca ≡ 32
  pub root : IsTrue (is_name o.root)
  pub station : IsTrue (is_name o.station)
  pub apart : bytes_eq o.root o.station ≡ false
  pub serials : IsTrue (are_serials o.first o.last)

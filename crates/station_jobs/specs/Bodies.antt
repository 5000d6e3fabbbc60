-- Printing approved unsigned certificates (bodies).
use Rattle.std.specs.Prelude.{◌≡◌, ◌⊎◌, ◌<◌, ◌+◌, ◌^◌, ◌++◌, ◌∷◌, [], ℕ, List, All, decimal, Option, Some, None, Result}
use Rattle.std.specs.Prelude.{IfErr, Ok, Err}
use Rattle.std.specs.List.{flat_map}
use Rattle.std.specs.Option.{option_map_or}
use Rattle.std.specs.Io.KnownBytes.{Appends}
use Rattle.wire.specs.Streams.{AppendsBeginning}
use Rattle.lines.specs.Digests.{digest_text}
use Rattle.cert.specs.declared.fields.CertFields.{CertFields}
use Rattle.guard.specs.declared.approved.Approved.{Approved}
use Rattle.guard.specs.Machine.{State, body_of, fields_of}
use Rattle.guard.specs.Retiring.{IsRowFrom}
use Rattle.station_jobs.specs.declared.station_fault.StationFault.{StationFault}
use Rattle.station_jobs.specs.declared.station_fault.StationFault.TheVariants.{UnknownSerial, Write}
use Rattle.station_jobs.specs.Faults.{IsOfARegister, IsOfRows}

-- a line SERIAL DIGEST TIME KEYID
abbrev pub named_line : Approved → (key_id : List ℕ) → List ℕ
named_line a key_id =
    decimal a.serial
    ++ (32 ∷ (digest_text a.body ++ (32 ∷ (decimal a.moment ++ (32 ∷ (key_id ++ (10 ∷ [])))))))

-- the same, with the body's key id
abbrev pub row_line : Approved → List ℕ
row_line a = named_line a (option_map_or (λ c. c.key_id) (fields_of a.body) [])

-- the fields of a body are there, and bear this serial
abbrev pub BearSerial : ℕ → Option CertFields → Type 0
BearSerial serial (Some c) = c.serial ≡ serial
BearSerial serial None = ⊥

-- the row's body is one of the profile, of the row's serial
abbrev pub IsWhole : Approved → Type 0
IsWhole a = BearSerial a.serial (fields_of a.body)

-- These are the first rows from `from` on, in order of their serials, and each is whole. The search for more goes on
-- from `next`.
abbrev pub Follow : State → (from : ℕ) → List Approved → (next : ℕ) → Type 0
Follow s from [] next = next ≡ from
Follow s from (a ∷ rows) next = IsRowFrom s from (Some a) × IsWhole a × Follow s (a.serial + 1) rows next

-- The line of the first row from `from` on is printed, which is whole, and the serial after it is returned. Or there is
-- no such row, and nothing is printed.
abbrev pub PrintsFrom : State → (from : ℕ) → (held holds : Option (List ℕ)) → Option ℕ → Type 0
PrintsFrom s from held holds (Some next) =
    (a : Approved) × IsRowFrom s from (Some a) × IsWhole a × (next ≡ a.serial + 1) × Appends held holds (row_line a)
PrintsFrom s from held holds None = IsRowFrom s from None × (holds ≡ held)

-- A prefix of the row's line is printed, which is whole, or nothing.
abbrev pub CutsRow : Approved → (held holds : Option (List ℕ)) → Type 0
CutsRow a held holds = (holds ≡ held) ⊎ (IsWhole a × AppendsBeginning held holds (row_line a))

-- the line of each stored row is printed, in order of the serials
pub record ListsBodies (s : State) (held holds : Option (List ℕ)) : Type 0 where
  pub rows : List Approved
  pub next : ℕ
  pub in_order : Follow s 0 rows next
  pub last : IsRowFrom s next None
  pub printed : Appends held holds (flat_map row_line rows)

-- A prefix of the lines of the first rows from `from` on is printed.
pub record ListsFirst (s : State) (from : ℕ) (held holds : Option (List ℕ)) : Type 0 where
  pub rows : List Approved
  pub next : ℕ
  pub in_order : Follow s from rows next
  pub printed : AppendsBeginning held holds (flat_map row_line rows)

-- the line of each stored row is printed, or after a fault a prefix of the lines
abbrev pub ListsRows : State → (held holds : Option (List ℕ)) → Result (Unit {0}) StationFault → Type 0
ListsRows s held holds (Ok done) = ListsBodies s held holds
ListsRows s held holds (Err e) = ListsFirst s 0 held holds

-- each row is whole, with a serial below 2^63, as each that a guard writes is
abbrev pub AreReadable : State → Type 0
AreReadable s = All (λ a. IsWhole a × (a.serial < 2 ^ 63)) s.approved

-- The rows are printed, and what was kept is left. A fault is of the register or of the output, and if each row is
-- whole, it has its cause.
pub record PrintsRows (s : State) (Left : State → Result (Unit {0}) StationFault → Type 0)
    (held holds : Option (List ℕ)) (result : Result (Unit {0}) StationFault) : Type 0 where
  pub lists : ListsRows s held holds result
  pub stays : Left s (Ok tt)
  pub only : IfErr result IsOfRows
  pub cause : AreReadable s → Left s result

-- The body that is approved under the serial is printed, or if the output fails a prefix of it. For a serial without a
-- body, and if the register doesn't answer, nothing is printed.
abbrev pub PrintsBody : State → ℕ → (held holds : Option (List ℕ)) → Result (Unit {0}) StationFault → Type 0
PrintsBody s serial held holds (Ok done) = (body : List ℕ) × (body_of s serial ≡ Some body) × Appends held holds body
PrintsBody s serial held holds (Err UnknownSerial) = (body_of s serial ≡ None) × (holds ≡ held)
PrintsBody s serial held holds (Err Write) =
    (body : List ℕ) × (body_of s serial ≡ Some body) × AppendsBeginning held holds body
PrintsBody s serial held holds (Err other) = IsOfARegister other × (holds ≡ held)

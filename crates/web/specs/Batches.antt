-- The lines of the table.
use Rattle.std.specs.Prelude.{◌≡◌, ◌+◌, ◌++◌, List, length, ℕ, Bool}
use Rattle.std.specs.List.{flat_map}
use Rattle.office.specs.declared.certificate.Certificate.{Certificate}
use Rattle.office.specs.declared.listing.Revocations.{Revocations}
use Rattle.office.specs.Listing.{is_certificate_among}
use Rattle.office.specs.Publication.{entry_as, standing_as}
use Rattle.web.specs.Reports.{entry_line, total_line}

-- the line of a certificate, given whether it is revoked
abbrev pub line_as : Bool → Certificate → List ℕ
line_as is_revoked c = entry_line (entry_as (standing_as is_revoked c) c)

-- the line of a certificate, given the revocations
abbrev pub line_among : Revocations → Certificate → List ℕ
line_among revocations c = line_as (is_certificate_among revocations c) c

-- the table of these certificates
abbrev pub table_among : Revocations → List Certificate → (version : ℕ) → List ℕ
table_among revocations cs version = flat_map (line_among revocations) cs ++ total_line (length cs) version

-- the lines of the certificates were appended, and `next` is as many places after `place` as there are certificates
pub record Says (revocations : Revocations) (cs : List Certificate) (place next : ℕ) (old new : List ℕ) : Type 0 where
  pub places : next ≡ place + length cs
  pub lines : new ≡ old ++ flat_map (line_among revocations) cs

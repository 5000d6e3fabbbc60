-- The size of a list. Each version of an office's list has a section, a serial or a key ID more than the one before it,
-- so a version is never higher than the size of its list.
use Rattle.std.specs.Prelude.{ℕ, ◌+◌, ◌-◌, List, [], ◌∷◌, length}
use Rattle.krl.specs.Format.{Part, Serials, Range, KeyIds, OtherPart, Section, Certificates, OtherSection}
use Rattle.krl.specs.Format.{RevocationList}

-- the sum of the sizes
abbrev pub sum_of : {X : Type 0} → (X → ℕ) → List X → ℕ
sum_of size [] = 0
sum_of size (x ∷ xs) = size x + sum_of size xs

-- how many serials or key IDs the part has
abbrev pub part_size : Part → ℕ
part_size (Serials ns) = length ns
part_size (Range r) = r.hi + 1 - r.lo
part_size (KeyIds ids) = length ids
part_size (OtherPart kind data_bytes) = 0

-- one for the section, and one for each serial and each key ID in it
abbrev pub section_size : Section → ℕ
section_size (Certificates ca reserved parts) = 1 + sum_of part_size parts
section_size (OtherSection kind data_bytes) = 0

abbrev pub list_size : RevocationList → ℕ
list_size l = sum_of section_size l.sections

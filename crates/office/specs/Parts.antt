-- The parts of the published list: the revoked serials of each CA.
use Rattle.std.specs.Prelude.{◌≡◌, ℕ, ◌<◌, List, [], length, map, All, ◌&&◌, slice_index_or}
use Rattle.std.specs.List.{zip}
use Rattle.krl.specs.declared.run.Run.{Run}
use Rattle.krl.specs.declared.ca_part.CaPart.{CaPart}
use Rattle.krl.specs.Sets.{AreRuns, contains, is_last_reached}
use Rattle.office.specs.declared.ca.Ca.{Ca}

-- each CA's first serial
abbrev pub numbers : List Ca → List ℕ
numbers cas = map (λ ca. ca.since) cas

abbrev pub part_with : Ca × List Run → CaPart
part_with p = record { ca = p.0.key; runs = p.1 }

-- a part for each CA, with its ranges (`Run`)
abbrev pub zipped : List Ca → List (List Run) → List CaPart
zipped cas split = map part_with (zip cas split)

-- a list of ranges for each CA: those serials from its first serial on that come before every later CA's first serial
pub record AreSplitByCa (split : List (List Run)) (cas : List Ca) (serials : List Run) : Type 0 where
  pub size : length split ≡ length cas
  pub runs : All AreRuns split
  pub each : (k n : ℕ) → k < length cas
      → contains (slice_index_or split k []) n ≡ (is_last_reached (numbers cas) k n && contains serials n)

-- the parts are zipped from such a split
abbrev pub AreParts : List CaPart → List Ca → List Run → Type 0
AreParts parts cas serials = (split : List (List Run)) × AreSplitByCa split cas serials × (parts ≡ zipped cas split)

-- The refusals of a list guard, each with its number and its name.
use Rattle.std.specs.Prelude.{ℕ, List, codes}
use Rattle.list_guard.specs.declared.refusal.Refusal.{Refusal}
use Rattle.list_guard.specs.declared.refusal.Refusal.TheVariants.{
  NotAList,
  OtherCa,
  OlderVersion,
  OtherBytes,
  Forgets,
  NotBegun,
  VersionJumps,
}

-- number and name
abbrev pub refusal_row : Refusal → ℕ × List ℕ
refusal_row NotAList = (40, codes "NotAList")
refusal_row OtherCa = (41, codes "OtherCa")
refusal_row OlderVersion = (42, codes "OlderVersion")
refusal_row OtherBytes = (43, codes "OtherBytes")
refusal_row Forgets = (44, codes "Forgets")
refusal_row NotBegun = (45, codes "NotBegun")
refusal_row VersionJumps = (46, codes "VersionJumps")

abbrev pub refusal_number : Refusal → ℕ
refusal_number r = (refusal_row r).0

-- the name, as an answer has it
abbrev pub refusal_name : Refusal → List ℕ
refusal_name r = (refusal_row r).1

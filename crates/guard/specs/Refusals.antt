-- The refusals of a guard, each with its number and its name.
use Rattle.std.specs.Prelude.{ℕ, List, codes}
use Rattle.guard.specs.declared.refusal.Refusal.{Refusal}
use Rattle.guard.specs.declared.refusal.Refusal.TheVariants.{
  NotABody,
  OtherCa,
  OtherSerial,
  SerialTaken,
  NoDepartment,
  OtherKind,
  NotPermitted,
  AlreadyEnded,
  TooFarAhead,
}

-- number and name
abbrev pub refusal_row : Refusal → ℕ × List ℕ
refusal_row NotABody = (31, codes "NotABody")
refusal_row OtherCa = (32, codes "OtherCa")
refusal_row OtherSerial = (33, codes "OtherSerial")
refusal_row SerialTaken = (34, codes "SerialTaken")
refusal_row NoDepartment = (35, codes "NoDepartment")
refusal_row OtherKind = (36, codes "OtherKind")
refusal_row NotPermitted = (37, codes "NotPermitted")
refusal_row AlreadyEnded = (38, codes "AlreadyEnded")
refusal_row TooFarAhead = (39, codes "TooFarAhead")

-- the place in the order in which refusals are tested
abbrev pub refusal_number : Refusal → ℕ
refusal_number r = (refusal_row r).0

-- the name that is printed in an answer
abbrev pub refusal_name : Refusal → List ℕ
refusal_name r = (refusal_row r).1

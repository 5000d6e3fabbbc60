-- Refusals: each with its number, its name and its HTTP status code (RFC 9110 section 15).
use Rattle.std.specs.Prelude.{ℕ, List, codes}
use Rattle.values.specs.declared.refusal.Refusal.{Refusal}
use Rattle.values.specs.declared.refusal.Refusal.TheVariants.{
  BadHead,
  NoRoute,
  WrongMethod,
  LengthRequired,
  TooLong,
  ShortBody,
  BadMessage,
  BadMoment,
  KeyReused,
  NotAllowed,
  NoDepartment,
  KindFixed,
  BadKeyId,
  NotPermitted,
  AlreadyEnded,
  KeyIdRevoked,
  UnknownSerial,
  WrongDigest,
  Revoked,
  AlreadySigned,
  NotSigned,
  SerialsExhausted,
  CaInUse,
  TooManyCas,
}

-- number, name and status
abbrev pub refusal_row : Refusal → ℕ × List ℕ × ℕ
refusal_row BadHead = (1, codes "BadHead", 400)
refusal_row NoRoute = (2, codes "NoRoute", 404)
refusal_row WrongMethod = (3, codes "WrongMethod", 405)
refusal_row LengthRequired = (4, codes "LengthRequired", 411)
refusal_row TooLong = (5, codes "TooLong", 413)
refusal_row ShortBody = (6, codes "ShortBody", 400)
refusal_row BadMessage = (7, codes "BadMessage", 400)
refusal_row BadMoment = (8, codes "BadMoment", 400)
refusal_row KeyReused = (9, codes "KeyReused", 409)
refusal_row NotAllowed = (10, codes "NotAllowed", 403)
refusal_row NoDepartment = (11, codes "NoDepartment", 404)
refusal_row KindFixed = (12, codes "KindFixed", 409)
refusal_row BadKeyId = (13, codes "BadKeyId", 409)
refusal_row NotPermitted = (14, codes "NotPermitted", 409)
refusal_row AlreadyEnded = (15, codes "AlreadyEnded", 409)
refusal_row KeyIdRevoked = (16, codes "KeyIdRevoked", 409)
refusal_row UnknownSerial = (17, codes "UnknownSerial", 404)
refusal_row WrongDigest = (18, codes "WrongDigest", 409)
refusal_row Revoked = (19, codes "Revoked", 409)
refusal_row AlreadySigned = (20, codes "AlreadySigned", 409)
refusal_row NotSigned = (21, codes "NotSigned", 409)
refusal_row SerialsExhausted = (22, codes "SerialsExhausted", 409)
refusal_row CaInUse = (23, codes "CaInUse", 409)
refusal_row TooManyCas = (24, codes "TooManyCas", 409)

-- the place in the order in which refusals are checked
abbrev pub refusal_number : Refusal → ℕ
refusal_number r = (refusal_row r).0

-- the name in a response
abbrev pub refusal_name : Refusal → List ℕ
refusal_name r = (refusal_row r).1

-- the HTTP status code
abbrev pub refusal_status : Refusal → ℕ
refusal_status r = (refusal_row r).2

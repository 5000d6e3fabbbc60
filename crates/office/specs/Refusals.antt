-- Refusals: for each kind of message, its refusals in order of their numbers, each with its condition.
use Rattle.std.specs.Prelude.{ℕ, List, [], ◌∷◌, length, Bool, false, not, ◌||◌, nat_lt, nat_le, if◌then◌else◌}
use Rattle.std.specs.Prelude.{Option, Some, None, is_none}
use Rattle.std.specs.Option.{option_map_or}
use Rattle.std.specs.Str.{bytes_eq}
use Rattle.lines.specs.declared.signature.Signature.{Signature}
use Rattle.lines.specs.Digests.{digest_text}
use Rattle.values.specs.Names.{department_of}
use Rattle.values.specs.declared.refusal.Refusal.{Refusal}
use Rattle.values.specs.declared.refusal.Refusal.TheVariants.{
  NotAllowed,
  NoDepartment,
  KindFixed,
  BadKeyId,
  NotPermitted,
  AlreadyEnded,
  KeyIdRevoked,
  UnknownSerial,
  WrongDigest,
  Revoked,
  AlreadySigned,
  NotSigned,
  SerialsExhausted,
  CaInUse,
  TooManyCas,
}
use Rattle.message.specs.declared.department.Department.{Department}
use Rattle.message.specs.declared.issue.Issue.{Issue}
use Rattle.message.specs.declared.renewal.Renewal.{Renewal}
use Rattle.message.specs.declared.delivery.Delivery.{Delivery}
use Rattle.message.specs.declared.serial_range.SerialRange.{SerialRange}
use Rattle.message.specs.declared.kinds.Message.{Message}
use Rattle.message.specs.declared.kinds.Message.TheVariants as message
use Rattle.message.specs.Permissions.{has_other_kind, is_missing}
use Rattle.office.specs.declared.certificate.Certificate.{Certificate}
use Rattle.office.specs.Permissions.{may_administer, may_ask, may_ask_about, is_permitted_to, is_renewal_permitted_to}
use Rattle.office.specs.State.{State, next_serial, certificate_of, department_named, department_of_serial, is_ca}
use Rattle.office.specs.State.{is_key_id_revoked, is_key_id_of_revoked, is_revoked}

-- the certificate exists and passes the test
abbrev pub is_one_that : (Certificate → Bool) → Option Certificate → Bool
is_one_that test c = option_map_or test c false

-- a signature is stored that differs from this one
abbrev pub is_other : Signature → Option Signature → Bool
is_other signature (Some kept) = not (bytes_eq kept.bytes signature.bytes)
is_other signature None = false

abbrev pub department_refusals : State → List ℕ → Department → List (Refusal × Bool)
department_refusals s caller d =
    (NotAllowed, not (bytes_eq caller s.opening.root))
    ∷ (KindFixed, has_other_kind (department_named s d.name) d.kind)
    ∷ []

abbrev pub issue_refusals : State → List ℕ → Issue → ℕ → List (Refusal × Bool)
issue_refusals s caller i moment =
    (NotAllowed, not (may_ask s.opening caller (department_named s i.department) i.key_id))
    ∷ (NoDepartment, is_missing (department_named s i.department))
    ∷ (BadKeyId, not (bytes_eq i.department (department_of i.key_id)))
    ∷ (NotPermitted, not (is_permitted_to s.opening caller (department_named s i.department) i))
    ∷ (AlreadyEnded, nat_le i.before moment)
    ∷ (KeyIdRevoked, is_key_id_revoked s i.key_id)
    ∷ (SerialsExhausted, nat_lt s.opening.last (next_serial s))
    ∷ []

-- for a serial that wasn't issued, the conditions before `UnknownSerial` depend on the caller alone
abbrev pub renewal_refusals : State → List ℕ → Renewal → ℕ → List (Refusal × Bool)
renewal_refusals s caller r moment = (
  NotAllowed,
  not (may_ask_about s.opening caller (department_of_serial s r.serial) (certificate_of s r.serial)),
)
    ∷ (
      NotPermitted,
      is_one_that (λ c. not (is_renewal_permitted_to s.opening caller (department_of_serial s r.serial) c r))
          (certificate_of s r.serial),
    )
    ∷ (AlreadyEnded, is_one_that (λ c. nat_le r.before moment) (certificate_of s r.serial))
    ∷ (KeyIdRevoked, is_key_id_of_revoked s r.serial)
    ∷ (UnknownSerial, is_none (certificate_of s r.serial))
    ∷ (Revoked, is_revoked s r.serial)
    ∷ (NotSigned, is_one_that (λ c. is_none c.signature) (certificate_of s r.serial))
    ∷ (SerialsExhausted, nat_lt s.opening.last (next_serial s))
    ∷ []

abbrev pub delivery_refusals : State → List ℕ → Delivery → List (Refusal × Bool)
delivery_refusals s caller d =
    (NotAllowed, not (bytes_eq caller s.opening.station))
    ∷ (UnknownSerial, is_none (certificate_of s d.serial))
    ∷ (WrongDigest, is_one_that (λ c. not (bytes_eq (digest_text c.body) d.digest)) (certificate_of s d.serial))
    ∷ (Revoked, is_revoked s d.serial)
    ∷ (AlreadySigned, is_one_that (λ c. is_other d.signature c.signature) (certificate_of s d.serial))
    ∷ []

abbrev pub serial_refusals : State → List ℕ → ℕ → List (Refusal × Bool)
serial_refusals s caller serial =
    (NotAllowed, not (may_ask_about s.opening caller (department_of_serial s serial) (certificate_of s serial)))
    ∷ (UnknownSerial, is_none (certificate_of s serial))
    ∷ []

-- each serial of the range must have been issued
abbrev pub range_refusals : State → List ℕ → SerialRange → List (Refusal × Bool)
range_refusals s caller r =
    (NotAllowed, not (bytes_eq caller s.opening.root))
    ∷ (UnknownSerial, nat_lt r.lo s.opening.first || nat_le (next_serial s) r.hi)
    ∷ []

abbrev pub key_id_refusals : State → List ℕ → List ℕ → List (Refusal × Bool)
key_id_refusals s caller key_id =
    (NotAllowed, not (may_administer s.opening caller (department_named s (department_of key_id))))
    ∷ (NoDepartment, is_missing (department_named s (department_of key_id)))
    ∷ []

abbrev pub rollover_refusals : State → List ℕ → List ℕ → List (Refusal × Bool)
rollover_refusals s caller key =
    (NotAllowed, not (bytes_eq caller s.opening.root))
    ∷ (CaInUse, is_ca s.cas key)
    ∷ (TooManyCas, nat_le 8 (length s.cas))
    ∷ []

abbrev pub refusals : State → List ℕ → Message → ℕ → List (Refusal × Bool)
refusals s caller (message.Department d) moment = department_refusals s caller d
refusals s caller (message.Issue i) moment = issue_refusals s caller i moment
refusals s caller (message.Renew r) moment = renewal_refusals s caller r moment
refusals s caller (message.Deliver d) moment = delivery_refusals s caller d
refusals s caller (message.RevokeSerial serial) moment = serial_refusals s caller serial
refusals s caller (message.RevokeRange r) moment = range_refusals s caller r
refusals s caller (message.RevokeKeyId key_id) moment = key_id_refusals s caller key_id
refusals s caller (message.Rollover k) moment = rollover_refusals s caller k.key

-- the first refusal that applies
abbrev pub first_holding : List (Refusal × Bool) → Option Refusal
first_holding [] = None
first_holding (r ∷ rs) = if r.1 then Some r.0 else first_holding rs

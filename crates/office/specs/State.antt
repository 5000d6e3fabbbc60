-- The state of the reference model, in which an office is represented by whole lists.
use Rattle.std.specs.Prelude.{ℕ, zero, suc, ◌+◌, ◌-◌, List, [], ◌∷◌, length, Bool, true, false, ◌&&◌, ◌||◌, nat_lt}
use Rattle.std.specs.Prelude.{if◌then◌else◌, Option, Some, None, slice_get}
use Rattle.std.specs.List.{list_any}
use Rattle.std.specs.Option.{option_map, option_and_then, option_map_or}
use Rattle.std.specs.Str.{bytes_eq}
use Rattle.std.specs.FinMap.Entries.{find}
use Rattle.std.specs.Cmp.Lexicographic.{slice_cmp}
use Rattle.std.specs.Ordering.{nat_cmp}
use Rattle.message.specs.declared.department.Department.{Department}
use Rattle.message.specs.declared.serial_range.SerialRange.{SerialRange}
use Rattle.office.specs.declared.opening.Opening.{Opening}
use Rattle.office.specs.declared.ca.Ca.{Ca}
use Rattle.office.specs.declared.certificate.Certificate.{Certificate}

pub record State : Type 0 where
  pub opening : Opening
  -- by number; the first is the opening's
  pub cas : List Ca
  -- by name
  pub departments : List (List ℕ × Department)
  -- by serial; the first serial is the opening's
  pub certificates : List Certificate
  -- the serials that are revoked
  pub revoked : ℕ → Bool
  -- the key IDs that are revoked, ascending
  pub revoked_key_ids : List (List ℕ)
  -- the version and the date of the published list
  pub version : ℕ
  pub date : ℕ

-- the first CA of an office
abbrev pub first_ca : Opening → Ca
first_ca o = record { key = o.ca; since = o.first }

abbrev pub opened : Opening → State
opened o = record {
  opening = o;
  cas = first_ca o ∷ [];
  departments = [];
  certificates = [];
  revoked = λ _. false;
  revoked_key_ids = [];
  version = 0;
  date = 0;
}

-- the serial to be handed out next
abbrev pub next_serial : State → ℕ
next_serial s = s.opening.first + length s.certificates

-- the certificate with a serial
abbrev pub certificate_of : State → ℕ → Option Certificate
certificate_of s serial =
    if nat_lt serial s.opening.first then None else slice_get s.certificates (serial - s.opening.first)

abbrev pub body_of : State → ℕ → Option (List ℕ)
body_of s serial = option_map (λ c. c.body) (certificate_of s serial)

-- the department with a name
abbrev pub department_named : State → List ℕ → Option Department
department_named s name = find (slice_cmp nat_cmp) name s.departments

-- the department that the certificate with a serial was issued for
abbrev pub department_of_serial : State → ℕ → Option Department
department_of_serial s serial = option_and_then (λ c. department_named s c.department) (certificate_of s serial)

-- the key of the CA with the greatest number
abbrev pub key_or : List ℕ → Option Ca → List ℕ
key_or first (Some ca) = ca.key
key_or first None = first

abbrev pub newest_key : Opening → List Ca → List ℕ
newest_key o cas = key_or o.ca (slice_get cas (length cas - 1))

-- one of the CAs has this key
abbrev pub is_ca : List Ca → List ℕ → Bool
is_ca cas key = list_any (λ ca. bytes_eq ca.key key) cas

-- ---- revocations

-- each of `count` serials starting with `from` is in the set
abbrev pub has_all : (ℕ → Bool) → (from count : ℕ) → Bool
has_all set from zero = true
has_all set from (suc count) = set from && has_all set (from + 1) count

-- each serial of the range is revoked
abbrev pub is_range_revoked : State → SerialRange → Bool
is_range_revoked s r = has_all s.revoked r.lo ((r.hi + 1) - r.lo)

abbrev pub is_key_id_revoked : State → List ℕ → Bool
is_key_id_revoked s key_id = list_any (λ k. bytes_eq k key_id) s.revoked_key_ids

-- the key ID of the certificate with a serial is revoked
abbrev pub is_key_id_of_revoked : State → ℕ → Bool
is_key_id_of_revoked s serial = option_map_or (λ c. is_key_id_revoked s c.fields.key_id) (certificate_of s serial) false

-- the serial or the key ID of its certificate is revoked
abbrev pub is_revoked : State → ℕ → Bool
is_revoked s serial = s.revoked serial || is_key_id_of_revoked s serial

-- any key ID is revoked
abbrev pub has_any : List (List ℕ) → Bool
has_any [] = false
has_any (k ∷ ks) = true

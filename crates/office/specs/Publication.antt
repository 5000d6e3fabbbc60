-- The data that a register returns about its state.
use Rattle.std.specs.Prelude.{◌≡◌, ℕ, suc, List, [], ◌∷◌, length, map, filter, Bool, ◌&&◌, ◌||◌, not, if◌then◌else◌}
use Rattle.std.specs.Prelude.{Option, is_none}
use Rattle.std.specs.Option.{option_map}
use Rattle.lines.specs.Digests.{digest_text}
use Rattle.cert.specs.Certificates.{certificate_text}
use Rattle.krl.specs.declared.ca_part.CaPart.{CaPart}
use Rattle.krl.specs.declared.krl_head.KrlHead.{KrlHead}
use Rattle.krl.specs.Sets.{is_last_reached, runs_in}
use Rattle.krl.specs.Published.{published_text}
use Rattle.message.specs.declared.department.Department.{Department}
use Rattle.office.specs.declared.ca.Ca.{Ca}
use Rattle.office.specs.declared.certificate.Certificate.{Certificate}
use Rattle.office.specs.declared.publication.Pending.{Pending}
use Rattle.office.specs.declared.publication.Issued.{Issued}
use Rattle.office.specs.declared.publication.Entry.{Entry}
use Rattle.office.specs.declared.publication.Standing.{Standing}
use Rattle.office.specs.declared.publication.Standing.TheVariants as standing
use Rattle.office.specs.declared.publication.Revoked.{Revoked}
use Rattle.office.specs.State.{State, certificate_of, is_key_id_revoked}

-- ---- certificates

-- its serial or its key ID is revoked
abbrev pub is_certificate_revoked : State → Certificate → Bool
is_certificate_revoked s c = s.revoked c.fields.serial || is_key_id_revoked s c.fields.key_id

-- it is neither signed nor revoked
abbrev pub is_pending : State → Certificate → Bool
is_pending s c = is_none c.signature && not (is_certificate_revoked s c)

abbrev pub pending_row : Certificate → Pending
pending_row c = record { serial = c.fields.serial; digest = digest_text c.body }

-- the pending certificates by serial
abbrev pub pending_of : State → List Pending
pending_of s = map pending_row (filter (is_pending s) s.certificates)

abbrev pub issued_row : Certificate → Issued
issued_row c = record {
  key_id = c.fields.key_id;
  certificate = option_map (λ signature. certificate_text c.body signature.bytes) c.signature;
}

abbrev pub issued_of : State → ℕ → Option Issued
issued_of s serial = option_map issued_row (certificate_of s serial)

-- its status, given whether it is revoked
abbrev pub standing_as : Bool → Certificate → Standing
standing_as is_revoked c =
    if is_revoked then standing.Revoked
    else if is_none c.signature then standing.Pending
    else standing.Signed

abbrev pub standing_of : State → Certificate → Standing
standing_of s c = standing_as (is_certificate_revoked s c) c

abbrev pub entry_as : Standing → Certificate → Entry
entry_as standing c = record {
  serial = c.fields.serial;
  kind = c.fields.kind;
  standing = standing;
  after = c.fields.after;
  before = c.fields.before;
  key_id = c.fields.key_id;
}

abbrev pub entry_of : State → Certificate → Entry
entry_of s c = entry_as (standing_of s c) c

-- the entries by serial
abbrev pub entries_of : State → List Entry
entries_of s = map (entry_of s) s.certificates

-- ---- departments

-- the departments by name
abbrev pub departments_of : State → List Department
departments_of s = map (λ e. e.1) s.departments

-- ---- the list

abbrev pub head_of : State → KrlHead
head_of s = record { version = s.version; date = s.date }

-- the serial is revoked, and was issued under the CA at the place
abbrev pub is_revoked_under : State → ℕ → ℕ → Bool
is_revoked_under s place serial = s.revoked serial && is_last_reached (map (λ ca. ca.since) s.cas) place serial

-- the part of the CA at the place: the ranges of the revoked serials that were issued under it
abbrev pub part_of : State → ℕ → Ca → CaPart
part_of s place ca =
    record { ca = ca.key; runs = runs_in (is_revoked_under s place) s.opening.first (length s.certificates) }

abbrev pub parts_from : State → ℕ → List Ca → List CaPart
parts_from s place [] = []
parts_from s place (ca ∷ cas) = part_of s place ca ∷ parts_from s (suc place) cas

-- the parts in order of the CAs' numbers
abbrev pub published_parts : State → List CaPart
published_parts s = parts_from s 0 s.cas

-- the bytes of the published list
abbrev pub published_list : State → List ℕ
published_list s = published_text (head_of s) (published_parts s) s.revoked_key_ids

-- the contents of the list are the state's
pub record AreRevoked (r : Revoked) (s : State) : Type 0 where
  pub head : r.head ≡ head_of s
  pub parts : r.parts.items ≡ published_parts s
  pub key_ids : r.key_ids ≡ s.revoked_key_ids

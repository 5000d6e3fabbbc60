-- The reference model of an office: one message at a time, without repeats.
use Rattle.std.specs.Prelude.{ℕ, zero, suc, ◌+◌, ◌-◌, List, [], ◌∷◌, ◌++◌, length, ◌||◌, if◌then◌else◌, Option, Some}
use Rattle.std.specs.Prelude.{None, Result, Ok, Err}
use Rattle.std.specs.Option.{option_map, option_map_or}
use Rattle.std.specs.FinMap.Entries.{put, by_order}
use Rattle.std.specs.Cmp.Lexicographic.{slice_cmp}
use Rattle.std.specs.Ordering.{nat_cmp}
use Rattle.lines.specs.declared.signature.Signature.{Signature}
use Rattle.values.specs.declared.refusal.Refusal.{Refusal}
use Rattle.krl.specs.Sets.{is_within}
use Rattle.message.specs.declared.department.Department.{Department}
use Rattle.message.specs.declared.issue.Issue.{Issue}
use Rattle.message.specs.declared.renewal.Renewal.{Renewal}
use Rattle.message.specs.declared.serial_range.SerialRange.{SerialRange}
use Rattle.message.specs.declared.kinds.Message.{Message}
use Rattle.message.specs.declared.kinds.Message.TheVariants as message
use Rattle.office.specs.declared.ca.Ca.{Ca}
use Rattle.office.specs.declared.certificate.Certificate.{Certificate}
use Rattle.office.specs.Certificates.{certificate_for, renewed_certificate, kind_or_user}
use Rattle.office.specs.Replies.{department_reply, issue_reply, delivery_reply, revocation_reply, rollover_reply}
pub use Rattle.office.specs.State.{
  State,
  opened,
  next_serial,
  certificate_of,
  body_of,
  department_named,
  department_of_serial,
  newest_key,
  is_range_revoked,
  is_key_id_revoked,
  is_revoked,
  has_any,
}
pub use Rattle.office.specs.Refusals.{refusals, first_holding}

-- ---- new certificates

-- the certificate that an issue message makes
abbrev pub issued : State → Issue → List ℕ → Certificate
issued s i nonce =
    certificate_for i (next_serial s) (kind_or_user (department_named s i.department)) (newest_key s.opening s.cas)
    nonce

-- the certificate that a renewal makes from an existing one
abbrev pub renewed : State → Renewal → List ℕ → Option Certificate
renewed s r nonce =
    option_map (λ c. renewed_certificate c r (next_serial s) (newest_key s.opening s.cas) nonce)
    (certificate_of s r.serial)

-- ---- changes

abbrev pub with_department : State → Department → State
with_department s d = record s { departments = put (slice_cmp nat_cmp) d.name d s.departments }

abbrev pub with_certificate : State → Certificate → State
with_certificate s c = record s { certificates = s.certificates ++ c ∷ [] }

-- the state with the certificate added, if there is one
abbrev pub with_one_more : State → Option Certificate → State
with_one_more s (Some c) = with_certificate s c
with_one_more s None = s

abbrev pub signed : Certificate → Signature → Certificate
signed c signature = record c { signature = Some signature }

-- the certificates, with the one at a place signed
abbrev pub signed_at : List Certificate → ℕ → Signature → List Certificate
signed_at [] place signature = []
signed_at (c ∷ cs) zero signature = signed c signature ∷ cs
signed_at (c ∷ cs) (suc place) signature = c ∷ signed_at cs place signature

abbrev pub with_signature : State → ℕ → Signature → State
with_signature s serial signature =
    record s { certificates = signed_at s.certificates (serial - s.opening.first) signature }

-- the state in which the serials of the range are revoked too
abbrev pub with_range : State → SerialRange → State
with_range s r = record s { revoked = λ n. is_within n (record { lo = r.lo; hi = r.hi }) || s.revoked n }

-- the ascending texts with this one inserted in its place, unless it is already there
abbrev pub put_text : List ℕ → List (List ℕ) → List (List ℕ)
put_text t [] = t ∷ []
put_text t (u ∷ us) = by_order (slice_cmp nat_cmp t u) (t ∷ u ∷ us) (u ∷ us) (u ∷ put_text t us)

abbrev pub with_key_id : State → List ℕ → State
with_key_id s key_id = record s { revoked_key_ids = put_text key_id s.revoked_key_ids }

abbrev pub with_ca : State → Ca → State
with_ca s ca = record s { cas = s.cas ++ ca ∷ [] }

-- the published list gets its next version, dated at this time
abbrev pub republished : State → ℕ → State
republished s moment = record s { version = s.version + 1; date = moment }

-- the CA with this key, from the next serial on
abbrev pub ca_from_now : State → List ℕ → Ca
ca_from_now s key = record { key = key; since = next_serial s }

-- ---- the effect of an accepted message

-- the state after a message, at this time and with this nonce. The list gets a new version exactly when it changes
abbrev pub after : State → Message → ℕ → List ℕ → State
after s (message.Department d) moment nonce = with_department s d
after s (message.Issue i) moment nonce = with_certificate s (issued s i nonce)
after s (message.Renew r) moment nonce = with_one_more s (renewed s r nonce)
after s (message.Deliver d) moment nonce = with_signature s d.serial d.signature
after s (message.RevokeSerial serial) moment nonce =
    if s.revoked serial then s else republished (with_range s (record { lo = serial; hi = serial })) moment
after s (message.RevokeRange r) moment nonce =
    if is_range_revoked s r then s else republished (with_range s r) moment
after s (message.RevokeKeyId key_id) moment nonce =
    if is_key_id_revoked s key_id then s else republished (with_key_id s key_id) moment
after s (message.Rollover k) moment nonce =
    if has_any s.revoked_key_ids then republished (with_ca s (ca_from_now s k.key)) moment
    else with_ca s (ca_from_now s k.key)

-- the reply with the serial and the digest of the new certificate
abbrev pub reply_to_made : State → Option Certificate → List ℕ
reply_to_made s c = option_map_or (λ c. issue_reply (next_serial s) c.body) c []

abbrev pub reply_to : State → Message → ℕ → List ℕ → List ℕ
reply_to s (message.Department d) moment nonce = department_reply d.name
reply_to s (message.Issue i) moment nonce = issue_reply (next_serial s) (issued s i nonce).body
reply_to s (message.Renew r) moment nonce = reply_to_made s (renewed s r nonce)
reply_to s (message.Deliver d) moment nonce = delivery_reply d.serial
reply_to s (message.RevokeSerial serial) moment nonce =
    revocation_reply (after s (message.RevokeSerial serial) moment nonce).version
reply_to s (message.RevokeRange r) moment nonce =
    revocation_reply (after s (message.RevokeRange r) moment nonce).version
reply_to s (message.RevokeKeyId key_id) moment nonce =
    revocation_reply (after s (message.RevokeKeyId key_id) moment nonce).version
reply_to s (message.Rollover k) moment nonce = rollover_reply (length s.cas + 1) (next_serial s)

pub record Stepped : Type 0 where
  pub state : State
  pub reply : List ℕ

abbrev pub refused_or : {A : Type 0} → Option Refusal → A → Result A Refusal
refused_or (Some r) a = Err r
refused_or None a = Ok a

-- the refusal with the least number, or the new state and the reply
abbrev pub step : State → List ℕ → Message → ℕ → List ℕ → Result Stepped Refusal
step s caller m moment nonce =
    refused_or (first_holding (refusals s caller m moment))
    (record { state = after s m moment nonce; reply = reply_to s m moment nonce })

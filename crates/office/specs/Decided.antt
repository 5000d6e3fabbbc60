-- The meaning of a decision in the reference model.
use Rattle.std.specs.Prelude.{◌≡◌, ℕ, ◌+◌, ◌<◌, ◌≤◌, List, length, Bool, IsTrue, IsSome, Option, None, option_copied}
use Rattle.std.specs.Prelude.{Result}
use Rattle.std.specs.Prelude.{Ok, Err}
use Rattle.std.specs.Option.{option_and_then}
use Rattle.values.specs.Names.{department_of, is_key_id}
use Rattle.message.specs.declared.department.Department.{Department}
use Rattle.values.specs.Serials.{is_serial}
use Rattle.message.specs.Values.{is_department, is_signature, is_range}
use Rattle.message.specs.declared.kinds.Message.{Message}
use Rattle.message.specs.declared.kinds.Message.TheVariants as message
use Rattle.office.specs.declared.certificate.Certificate.{Certificate}
use Rattle.office.specs.declared.view.View.{View}
use Rattle.office.specs.declared.view.Change.{Change}
use Rattle.office.specs.declared.view.Change.TheVariants as change
use Rattle.office.specs.declared.view.Decision.{Decision}
use Rattle.office.specs.declared.view.Stop.{Stop}
use Rattle.office.specs.declared.view.Stop.TheVariants as stop
use Rattle.office.specs.Concerns.{named_serial}
use Rattle.office.specs.Replies.{issue_reply}
use Rattle.office.specs.Certificates.{IsCertificate}
use Rattle.office.specs.Machine.{
  State,
  Stepped,
  next_serial,
  certificate_of,
  department_named,
  department_of_serial,
  is_range_revoked,
  is_key_id_revoked,
  has_any,
  with_department,
  with_certificate,
  with_signature,
  with_range,
  with_key_id,
  with_ca,
  step,
}
use Rattle.office.specs.State.{is_key_id_of_revoked}

-- ---- what a view shows

-- the certificate with the serial that a message names
abbrev pub certificate_concerned : State → Message → Option Certificate
certificate_concerned s m = option_and_then (certificate_of s) (named_serial m)

-- the department that a message names, or else that of the certificate whose serial it names
abbrev pub department_concerned : State → Message → Option Department
department_concerned s (message.Department d) = department_named s d.name
department_concerned s (message.Issue i) = department_named s i.department
department_concerned s (message.Renew r) = department_of_serial s r.serial
department_concerned s (message.Deliver d) = department_of_serial s d.serial
department_concerned s (message.RevokeSerial serial) = department_of_serial s serial
department_concerned s (message.RevokeRange r) = None
department_concerned s (message.RevokeKeyId key_id) = department_named s (department_of key_id)
department_concerned s (message.Rollover k) = None

-- if the message names a serial or a range, the flag is whether the serial, or every serial of the range, is revoked
abbrev pub SaysRevoked : Bool → State → Message → Type 0
SaysRevoked flag s (message.Department d) = Unit {0}
SaysRevoked flag s (message.Issue i) = Unit {0}
SaysRevoked flag s (message.Renew r) = flag ≡ s.revoked r.serial
SaysRevoked flag s (message.Deliver d) = flag ≡ s.revoked d.serial
SaysRevoked flag s (message.RevokeSerial serial) = flag ≡ s.revoked serial
SaysRevoked flag s (message.RevokeRange r) = flag ≡ is_range_revoked s r
SaysRevoked flag s (message.RevokeKeyId key_id) = Unit {0}
SaysRevoked flag s (message.Rollover k) = Unit {0}

-- if the message depends on it, the flag is whether the key ID that it names, or that of the certificate that it
-- names, is revoked
abbrev pub SaysKeyIdRevoked : Bool → State → Message → Type 0
SaysKeyIdRevoked flag s (message.Department d) = Unit {0}
SaysKeyIdRevoked flag s (message.Issue i) = flag ≡ is_key_id_revoked s i.key_id
SaysKeyIdRevoked flag s (message.Renew r) = flag ≡ is_key_id_of_revoked s r.serial
SaysKeyIdRevoked flag s (message.Deliver d) = flag ≡ is_key_id_of_revoked s d.serial
SaysKeyIdRevoked flag s (message.RevokeSerial serial) = Unit {0}
SaysKeyIdRevoked flag s (message.RevokeRange r) = Unit {0}
SaysKeyIdRevoked flag s (message.RevokeKeyId key_id) = flag ≡ is_key_id_revoked s key_id
SaysKeyIdRevoked flag s (message.Rollover k) = Unit {0}

-- the flag is whether any key ID is revoked, if the message depends on it
abbrev pub SaysAnyKeyIdRevoked : Bool → State → Message → Type 0
SaysAnyKeyIdRevoked flag s (message.Department d) = Unit {0}
SaysAnyKeyIdRevoked flag s (message.Issue i) = Unit {0}
SaysAnyKeyIdRevoked flag s (message.Renew r) = Unit {0}
SaysAnyKeyIdRevoked flag s (message.Deliver d) = Unit {0}
SaysAnyKeyIdRevoked flag s (message.RevokeSerial serial) = Unit {0}
SaysAnyKeyIdRevoked flag s (message.RevokeRange r) = Unit {0}
SaysAnyKeyIdRevoked flag s (message.RevokeKeyId key_id) = Unit {0}
SaysAnyKeyIdRevoked flag s (message.Rollover k) = flag ≡ has_any s.revoked_key_ids

-- the view agrees with the state on everything that a decision on the message depends on
pub record Agrees (v : View) (s : State) (m : Message) : Type 0 where
  pub opening : v.opening.now ≡ s.opening
  pub cas : v.cas.now ≡ s.cas
  pub next : v.next ≡ next_serial s
  pub version : v.version ≡ s.version
  pub date : v.date ≡ s.date
  pub department : option_copied v.department ≡ department_concerned s m
  pub certificate : option_copied v.certificate ≡ certificate_concerned s m
  pub revoked : SaysRevoked v.is_revoked s m
  pub key_id : SaysKeyIdRevoked v.is_key_id_revoked s m
  pub key_ids : SaysAnyKeyIdRevoked v.has_revoked_key_ids s m

-- ---- the effect of a decision

abbrev pub changed : Change → State → State
changed change.Nothing s = s
changed (change.Department d) s = with_department s d
changed (change.Certificate c) s = with_certificate s c
changed (change.Signature serial signature) s = with_signature s serial signature
changed (change.Range r) s = with_range s r
changed (change.KeyId key_id) s = with_key_id s key_id
changed (change.Ca ca) s = with_ca s ca

-- the state after the decision is written
abbrev pub written : Decision → State → State
written d s = record (changed d.change s) { version = d.version; date = d.date }

abbrev pub stepped_by : Decision → State → Stepped
stepped_by d s = record { state = written d s; reply = d.reply }

-- the decision or refusal is that of the reference model's step, unless memory was refused
abbrev pub Decided : Result Decision Stop → State → List ℕ → Message → ℕ → List ℕ → Type 0
Decided (Ok d) s caller m moment nonce =
    (step s caller m moment nonce ≡ Ok (stepped_by d s)) × (d.next ≡ next_serial (written d s))
Decided (Err (stop.Refused r)) s caller m moment nonce = step s caller m moment nonce ≡ Err r
Decided (Err stop.NoMemory) s caller m moment nonce = Unit {0}

-- the result is this decision, unless memory was refused
abbrev pub IsMade : Result Decision Stop → Decision → Type 0
IsMade (Ok d) x = d ≡ x
IsMade (Err (stop.Refused r)) x = ⊥
IsMade (Err stop.NoMemory) x = Unit {0}

-- the decision to make a certificate, under the next serial
abbrev pub certified : View → Certificate → Decision
certified v c = record {
  reply = issue_reply v.next c.body;
  next = v.next + 1;
  version = v.version;
  date = v.date;
  change = change.Certificate c;
}

-- the decision that leaves the published list as it is
abbrev pub unpublished : View → List ℕ → Change → Decision
unpublished v reply change =
    record { reply = reply; next = v.next; version = v.version; date = v.date; change = change }

-- the decision that gives the published list its next version, dated at this time
abbrev pub published : View → List ℕ → Change → ℕ → Decision
published v reply change moment =
    record { reply = reply; next = v.next; version = v.version + 1; date = moment; change = change }

-- ---- preconditions of a change

-- a certificate is made only if a serial is left, only existing certificates are signed, and only serials that were
-- handed out are revoked; a CA is added only if there are fewer than eight, and serves from the next serial on
abbrev pub HasRoom : Change → State → Type 0
HasRoom change.Nothing s = Unit {0}
HasRoom (change.Department d) s = Unit {0}
HasRoom (change.Certificate c) s = next_serial s ≤ s.opening.last
HasRoom (change.Signature serial signature) s = IsSome (certificate_of s serial)
HasRoom (change.Range r) s = (s.opening.first ≤ r.lo) × (r.hi < next_serial s)
HasRoom (change.KeyId key_id) s = Unit {0}
HasRoom (change.Ca ca) s = (length s.cas < 8) × (ca.since ≡ next_serial s)

-- the change to be written is well-formed
abbrev pub IsLawfulChange : Change → Type 0
IsLawfulChange change.Nothing = Unit {0}
IsLawfulChange (change.Department d) = IsTrue (is_department d)
IsLawfulChange (change.Certificate c) = IsCertificate c
IsLawfulChange (change.Signature serial signature) = IsTrue (is_serial serial) × IsTrue (is_signature signature)
IsLawfulChange (change.Range r) = IsTrue (is_range r)
IsLawfulChange (change.KeyId key_id) = IsTrue (is_key_id key_id)
IsLawfulChange (change.Ca ca) = Unit {0}

-- Reading the fields of a body in order: the steps that remain after each, and how each goes on or fails.
use Rattle.cert.proofs.Words.{Bool, CertFault, CertFields, CriticalOptions, Extensions, List, None, Ok, Option, Result}
use Rattle.cert.proofs.Words.{Some, ap, are_parts, check, ends_at, eqb, is_key_id, is_serial, is_some}
use Rattle.cert.proofs.Words.{is_validity, key_of, kind_of, length, option_map, options_of, or_fault, principals_of}
use Rattle.cert.proofs.Words.{refl, same_Some, string_at, strings_at, type_of, u32_at, u64_at, ℕ, ◌>>=◌, ◌≡◌}
use Rattle.cert.specs.Reading.{type_at, bytes_32_at, key_at, serial_at, kind_at, key_id_at, principals_at, validity_at}
use Rattle.cert.specs.Reading.{options_at, reserved_at, ca_at, from_key_id_at, body_at}
use Rattle.cert.specs.declared.cert_fault.CertFault.TheVariants as fault
use Rattle.cert.proofs.BodyParts.{option_cases}

-- ---- how a field is read

-- the first item passes a test, and a value is made from it
abbrev pub tested : {S A : Type 0} → CertFault → (List ℕ → Option (S × List ℕ)) → (S → Bool) → (S → A) → List ℕ
    → Result (A × List ℕ) CertFault
tested bad at test value bytes = or_fault fault.Truncated (at bytes) >>= λ s. check bad (test s.0) >>= λ _. Ok
    (value s.0, s.1)

-- the first item is the text of a value
abbrev pub made : {S A : Type 0} → CertFault → (List ℕ → Option (S × List ℕ)) → (S → Option A) → List ℕ
    → Result (A × List ℕ) CertFault
made bad at of bytes = or_fault fault.Truncated (at bytes) >>= λ s. or_fault bad (of s.0) >>= λ x. Ok (x, s.1)

-- both ends in one value, and what follows them
abbrev pub paired : ℕ × ℕ × List ℕ → (ℕ × ℕ) × List ℕ
paired ends = ((ends.0, ends.1), ends.2)

abbrev pub flat : (ℕ × ℕ) × List ℕ → ℕ × ℕ × List ℕ
flat both = (both.0.0, both.0.1, both.1)

abbrev pub both_at : List ℕ → Option ((ℕ × ℕ) × List ℕ)
both_at bytes = option_map paired (ends_at bytes)

-- both ends are read as one field
validity_is_tested : (bytes : List ℕ)
    → validity_at bytes ≡ tested fault.BadValidity both_at (λ e. is_validity e.0 e.1) (λ e. e) bytes
unfolding validity_at
validity_is_tested bytes =
    option_cases (u64_at bytes) _ (λ none. rw none refl) (λ a is. option_cases (u64_at a.1) _
    (λ none. rw (is, none) refl) (λ b also. rw (is, also) refl))

-- ---- the remaining steps, with the fields read so far in c

abbrev pub from_end : CertFields → List ℕ → Result CertFields CertFault
from_end c rest = check fault.TrailingBytes (eqb (length rest) 0) >>= λ _. Ok c

abbrev pub from_ca : CertFields → List ℕ → Result CertFields CertFault
from_ca c rest = made fault.BadCa string_at key_of rest >>= λ x. from_end (record c { ca = x.0 }) x.1

abbrev pub from_reserved : CertFields → List ℕ → Result CertFields CertFault
from_reserved c rest = tested fault.BadReserved string_at (λ s. eqb (length s) 0) (λ _. tt) rest
    >>= λ (x : Unit {0} × List ℕ). from_ca c x.1

abbrev pub from_extensions : CertFields → List ℕ → Result CertFields CertFault
from_extensions c rest = made fault.BadExtensions string_at (options_of Extensions c.kind) rest
    >>= λ x. from_reserved (record c { extensions = x.0 }) x.1

abbrev pub from_options : CertFields → List ℕ → Result CertFields CertFault
from_options c rest = made fault.BadOptions string_at (options_of CriticalOptions c.kind) rest
    >>= λ x. from_extensions (record c { options = x.0 }) x.1

abbrev pub from_validity : CertFields → List ℕ → Result CertFields CertFault
from_validity c rest = tested fault.BadValidity both_at (λ e. is_validity e.0 e.1) (λ e. e) rest
    >>= λ x. from_options (record c { after = x.0.0; before = x.0.1 }) x.1

abbrev pub from_principals : CertFields → List ℕ → Result CertFields CertFault
from_principals c rest = made fault.BadPrincipals string_at principals_of rest
    >>= λ x. from_validity (record c { principals = x.0 }) x.1

abbrev pub from_key_id : CertFields → List ℕ → Result CertFields CertFault
from_key_id c rest = tested fault.BadKeyId string_at is_key_id (λ s. s) rest
    >>= λ x. from_principals (record c { key_id = x.0 }) x.1

abbrev pub from_kind : CertFields → List ℕ → Result CertFields CertFault
from_kind c rest = made fault.BadKind u32_at kind_of rest >>= λ x. from_key_id (record c { kind = x.0 }) x.1

abbrev pub from_serial : CertFields → List ℕ → Result CertFields CertFault
from_serial c rest = tested fault.BadSerial u64_at is_serial (λ n. n) rest
    >>= λ x. from_kind (record c { serial = x.0 }) x.1

abbrev pub from_key : CertFields → List ℕ → Result CertFields CertFault
from_key c rest = tested fault.BadKey (strings_at c.key_type) (are_parts c.key_type) (λ ps. ps) rest
    >>= λ x. from_serial (record c { key = x.0 }) x.1

abbrev pub from_nonce : CertFields → List ℕ → Result CertFields CertFault
from_nonce c rest = tested fault.BadNonce string_at (λ s. eqb (length s) 32) (λ s. s) rest
    >>= λ x. from_key (record c { nonce = x.0 }) x.1

abbrev pub from_type : CertFields → List ℕ → Result CertFields CertFault
from_type c rest = made fault.WrongType string_at type_of rest >>= λ x. from_nonce (record c { key_type = x.0 }) x.1

-- reading a body begins with its type
pub body_at-from_type : (c : CertFields) (bytes : List ℕ) → body_at bytes ≡ from_type c bytes
unfolding body_at from_key_id_at type_at bytes_32_at key_at serial_at kind_at key_id_at principals_at options_at reserved_at
    ca_at
body_at-from_type c bytes = simp validity_is_tested

-- ---- both ends

-- they are read one after the other
pub both_again : (bytes : List ℕ) (a b : ℕ × List ℕ) → u64_at bytes ≡ Some a → u64_at a.1 ≡ Some b
    → both_at bytes ≡ Some ((a.0, b.0), b.1)
both_again bytes a b e f = rw (e, f) refl

pub flat_ends : (o : Option (ℕ × ℕ × List ℕ)) (both : (ℕ × ℕ) × List ℕ) → option_map paired o ≡ Some both
    → o ≡ Some (flat both)
flat_ends (Some ends) both e = ap (λ x. Some (flat x)) (same_Some (paired ends) both e)
flat_ends None both e = absurd cc

pub whole_ends : (o : Option (ℕ × ℕ × List ℕ)) → is_some o ≡ is_some (option_map paired o)
whole_ends (Some ends) = refl
whole_ends None = refl

-- The text of valid fields is read back.
use Rattle.cert.proofs.Words.{Bool, CertFault, CertFields, CriticalOptions, Extensions, IsCertFields, List, Ok, Option}
use Rattle.cert.proofs.Words.{Result, Some, [], ap, append-nil, append_assoc, arith, body_text, cert_name}
use Rattle.cert.proofs.Words.{check, eq-eqb, front, is_validity, key_blob, key_of_again, kind_number, length}
use Rattle.cert.proofs.Words.{nat_tests, options_text, or_fault, principals_text, refl, string_again, string_at}
use Rattle.cert.proofs.Words.{string_text, sym, true, u32_at, u32_text, u64_at, u64_text, w32, w64, wide32, wide64, ℕ}
use Rattle.cert.proofs.Words.{◌++◌, ◌<◌, ◌>>=◌, ◌^◌, ◌∙◌, ◌≡◌}
use Rattle.wire.proofs.Laws.{number_again}
use Rattle.lines.proofs.Blobs.{length-key_blob}
use Rattle.values.proofs.SerialLemmas.{serial_small}
use Rattle.cert.specs.Reading.{body_at}
use Rattle.cert.specs.declared.cert_fault.CertFault.TheVariants as fault
use Rattle.cert.proofs.Sizes.{key_id-lt, principals_text-lt, options_text-lt}
use Rattle.cert.proofs.NestedLaws.{principals_again}
use Rattle.cert.proofs.OptionLaws.{options_of_again}
use Rattle.cert.proofs.Tails
use Rattle.cert.proofs.Words.{parts_text, strings_at}
use Rattle.lines.proofs.Subjects.{cert_name-lt, strings_again, type_again}
use Rattle.cert.proofs.BodyParts.{kind_again, kind_small}

before_small : (a b : ℕ) → is_validity a b ≡ true → (a < 2 ^ 64) × (b < 2 ^ 64)
before_small a b h = (grind (arith, nat_tests), grind (arith, nat_tests))

both_again : (a b : ℕ) (rest : List ℕ) → is_validity a b ≡ true
    → Tails.both_at ((u64_text a ++ u64_text b) ++ rest) ≡ Some ((a, b), rest)
both_again a b rest h =
    let small = before_small a b h in
    ap Tails.both_at (append_assoc (u64_text a) (u64_text b) rest)
    ∙ Tails.both_again (u64_text a ++ (u64_text b ++ rest)) (a, u64_text b ++ rest) (b, rest)
    (number_again w64 (2 ^ 64) wide64 a (u64_text b ++ rest) small.0) (number_again w64 (2 ^ 64) wide64 b rest small.1)

-- One more field is read from a body whose front has been read.
reads : {S A : Type 0} (at : List ℕ → Option (S × List ℕ)) (f : S × List ℕ → Result (A × List ℕ) CertFault)
    (next : A × List ℕ → Result CertFields CertFault) (before text rest : List ℕ) (s : S) (x : A)
    → ((r : List ℕ) → body_at (before ++ r) ≡ ((or_fault fault.Truncated (at r) >>= f) >>= next))
    → at (text ++ rest) ≡ Some (s, rest) → f (s, rest) ≡ Ok (x, rest)
    → body_at ((before ++ text) ++ rest) ≡ next (x, rest)
reads at f next before text rest s x so_far here is =
    ap body_at (append_assoc before text rest) ∙ so_far (text ++ rest)
    ∙ ap (λ o. (or_fault fault.Truncated o >>= f) >>= next) here ∙ ap (λ r. r >>= next) is

-- The same for a string.
reads_string : {A : Type 0} (f : List ℕ × List ℕ → Result (A × List ℕ) CertFault)
    (next : A × List ℕ → Result CertFields CertFault) (before text rest : List ℕ) (x : A)
    → ((r : List ℕ) → body_at (before ++ r) ≡ ((or_fault fault.Truncated (string_at r) >>= f) >>= next))
    → length text < 2 ^ 32 → f (text, rest) ≡ Ok (x, rest)
    → body_at ((before ++ string_text text) ++ rest) ≡ next (x, rest)
reads_string f next before text rest x so_far small =
    reads string_at f next before (string_text text) rest text x so_far (string_again text rest small)

passes : {A : Type 0} (bad : CertFault) (b : Bool) (r : Result A CertFault) → b ≡ true → (check bad b >>= λ _. r) ≡ r
passes bad b r e = ap (λ b. check bad b >>= λ _. r) e

is_text : {X : Type 0} (bad : CertFault) (o : Option X) (x : X) (rest : List ℕ) → o ≡ Some x
    → ◌>>=◌ {B = X × List ℕ} (or_fault bad o) (λ x. Ok (x, rest)) ≡ Ok (x, rest)
is_text {X} bad o x rest e = ap (λ o. ◌>>=◌ {B = X × List ℕ} (or_fault bad o) (λ x. Ok (x, rest))) e

-- ---- the front of a body is read, up to a field

-- The first n valid fields are read, and this is how the rest is read.
abbrev pub Reads : ℕ → (CertFields → List ℕ → Result CertFields CertFault) → Type 0
Reads n next = (c : CertFields) → IsCertFields c → (rest : List ℕ) → body_at (front n c ++ rest) ≡ next c rest

pub reads_type : Reads 1 Tails.from_nonce
reads_type c l rest =
    reads_string _ _ [] (cert_name c.key_type) rest c.key_type (Tails.body_at-from_type c) (cert_name-lt c.key_type)
    (is_text fault.WrongType _ _ _ (type_again c.key_type))

pub reads_nonce : Reads 2 Tails.from_key
reads_nonce c l rest =
    reads_string _ _ (front 1 c) c.nonce rest c.nonce (reads_type c l) (omega (arith, l.nonce))
    (passes fault.BadNonce _ _ (eq-eqb _ _ l.nonce))

pub reads_key : Reads 3 Tails.from_serial
reads_key c l rest =
    reads (strings_at c.key_type) _ _ (front 2 c) (parts_text c.key) rest c.key c.key (reads_nonce c l)
    (strings_again c.key_type c.key rest l.key) (passes fault.BadKey _ _ l.key)

pub reads_serial : Reads 4 Tails.from_kind
reads_serial c l rest =
    reads u64_at _ _ (front 3 c) (u64_text c.serial) rest c.serial c.serial (reads_key c l)
    (number_again w64 (2 ^ 64) wide64 c.serial rest (serial_small c.serial l.serial))
    (passes fault.BadSerial _ _ l.serial)

pub reads_kind : Reads 5 Tails.from_key_id
reads_kind c l rest =
    let n = kind_number c.kind in
    reads u32_at _ _ (front 4 c) (u32_text n) rest n c.kind (reads_serial c l)
    (number_again w32 (2 ^ 32) wide32 n rest (kind_small c.kind)) (is_text fault.BadKind _ _ _ (kind_again c.kind))

pub reads_key_id : Reads 6 Tails.from_principals
reads_key_id c l rest =
    reads_string _ _ (front 5 c) c.key_id rest c.key_id (reads_kind c l) (key_id-lt c.key_id l.key_id)
    (passes fault.BadKeyId _ _ l.key_id)

pub reads_principals : Reads 7 Tails.from_validity
reads_principals c l rest =
    reads_string _ _ (front 6 c) (principals_text c.principals) rest c.principals (reads_key_id c l)
    (principals_text-lt c.principals l.principals)
    (is_text fault.BadPrincipals _ _ _ (principals_again c.principals l.principals))

pub reads_validity : Reads 8 Tails.from_options
reads_validity c l rest =
    reads Tails.both_at _ _ (front 7 c) (u64_text c.after ++ u64_text c.before) rest (c.after, c.before)
    (c.after, c.before) (reads_principals c l) (both_again c.after c.before rest l.validity)
    (passes fault.BadValidity _ _ l.validity)

pub reads_options : Reads 9 Tails.from_extensions
reads_options c l rest =
    reads_string _ _ (front 8 c) (options_text c.options) rest c.options (reads_validity c l)
    (options_text-lt CriticalOptions c.kind c.options l.options)
    (is_text fault.BadOptions _ _ _ (options_of_again CriticalOptions c.kind c.options l.options))

pub reads_extensions : Reads 10 Tails.from_reserved
reads_extensions c l rest =
    reads_string _ _ (front 9 c) (options_text c.extensions) rest c.extensions (reads_options c l)
    (options_text-lt Extensions c.kind c.extensions l.extensions)
    (is_text fault.BadExtensions _ _ _ (options_of_again Extensions c.kind c.extensions l.extensions))

pub reads_reserved : Reads 11 Tails.from_ca
reads_reserved c l rest = reads_string _ _ (front 10 c) [] rest tt (reads_extensions c l) (omega arith) refl

pub reads_ca : Reads 12 Tails.from_end
reads_ca c l rest =
    reads_string _ _ (front 11 c) (key_blob c.ca) rest c.ca (reads_reserved c l)
    (omega (arith, length-key_blob c.ca, l.ca)) (is_text fault.BadCa _ _ _ (key_of_again c.ca l.ca))

-- valid fields are read back from their text
pub body_at-again : (c : CertFields) → IsCertFields c → body_at (body_text c) ≡ Ok c
body_at-again c l = ap body_at (sym (append-nil (body_text c))) ∙ reads_ca c l []

-- A fault of the bytes is found, and what holds for the result of reading holds for the returned value.
use Rattle.cert.proofs.Words.{Bool, CertFault, CertFields, CriticalOptions, Err, Extensions, GivesRead, IsBytes}
use Rattle.cert.proofs.Words.{IsCertFields, IsCertFault, LeavesRest, List, None, Ok, Option, Result, Some, [], ap}
use Rattle.cert.proofs.Words.{arith}
use Rattle.cert.proofs.Words.{body_text, cert_name, check, ends_at, eqb, eqb-true, false, front}
use Rattle.cert.proofs.Words.{is_some, is_whole, key_blob, key_of, key_of_found, kind_number, kind_of, length}
use Rattle.cert.proofs.Words.{option_map, options_of, options_text, or_fault, principals_of, principals_text, refl}
use Rattle.cert.proofs.Words.{string_at, string_takes, subst, suc, sym, true, zero, ℕ, ◌++◌, ◌<◌, ◌>>=◌, ◌∙◌, ◌≡◌, ◌≢◌}
use Rattle.std.proofs.Common.{IfOk, IfErr}
use Rattle.std.proofs.lemmas.Bool.{false_from_ne_true}
use Rattle.cert.specs.Reading.{body_at}
use Rattle.cert.specs.declared.cert_fault.CertFault.TheVariants as fault
use Rattle.lines.proofs.Strings.{IsBytes_string, empty}
use Rattle.cert.proofs.NestedLaws.{principals_found}
use Rattle.text.proofs.ByteLemmas.{IsBytes_left}
use Rattle.cert.proofs.OptionLaws.{options_of_found}
use Rattle.cert.proofs.Tails
use Rattle.cert.proofs.Words.{type_of}
use Rattle.lines.proofs.Subjects.{type_found}
use Rattle.cert.proofs.BodyParts.{no_value, none_of, kind_found}
use Rattle.cert.proofs.BodySays.{Says, body_at-says}
use Rattle.cert.proofs.BodyAgain.{Reads, reads_type, reads_nonce, reads_key, reads_serial, reads_kind, reads_key_id}
use Rattle.cert.proofs.BodyAgain.{reads_principals, reads_validity, reads_options, reads_extensions, reads_reserved}
use Rattle.cert.proofs.BodyAgain.{reads_ca, body_at-again}

-- the bytes of a string in the rest are bytes
inside : (bytes before rest : List ℕ) (s : List ℕ × List ℕ) → bytes ≡ before ++ rest → string_at rest ≡ Some s
    → IsBytes bytes → IsBytes s.0
inside bytes before rest s text is fits =
    let left = IsBytes_left bytes before rest fits text in
    IsBytes_string rest s.0 s.1 (string_takes rest s.0 s.1 left is) left

more : (c : CertFields) (rest : List ℕ) → rest ≢ [] → Tails.from_end c rest ≡ Err fault.TrailingBytes
more c rest some = by (eqb (length rest) 0) refl
  where
    by : (b : Bool) → eqb (length rest) 0 ≡ b → (check fault.TrailingBytes b >>= λ _. Ok c) ≡ Err fault.TrailingBytes
    by true e = absurd (some (empty rest e))
    by false e = refl

-- a field is cut short, fails its test, or isn't the text of a value

cut_at : {S A B : Type 0} (o : Option S) (f : S → Result A CertFault) (next : A → Result B CertFault)
    → is_some o ≡ false → ((or_fault fault.Truncated o >>= f) >>= next) ≡ Err fault.Truncated
cut_at {S} o f next e = ap (λ (o : Option S). (or_fault fault.Truncated o >>= f) >>= next) (none_of o e)

bad_at : {S A B : Type 0} (o : Option S) (f : S → Result A CertFault) (next : A → Result B CertFault) (s : S)
    (bad : CertFault) → o ≡ Some s → f s ≡ Err bad → ((or_fault fault.Truncated o >>= f) >>= next) ≡ Err bad
bad_at o f next s bad e fails = ap (λ o. (or_fault fault.Truncated o >>= f) >>= next) e ∙ ap (λ r. r >>= next) fails

fails : {A : Type 0} (bad : CertFault) (b : Bool) (f : Unit {0} → Result A CertFault) → ¬ (b ≡ true)
    → (check bad b >>= f) ≡ Err bad
fails bad b f other = rw (false_from_ne_true b other) refl

no_text : {X A : Type 0} (bad : CertFault) (o : Option X) (f : X → Result A CertFault) → o ≡ None
    → (or_fault bad o >>= f) ≡ Err bad
no_text bad o f none = rw none refl

-- reading bytes that begin with valid fields
begun : (next : CertFields → List ℕ → Result CertFields CertFault) {bytes rest : List ℕ} {n : ℕ} {c : CertFields}
    → LeavesRest bytes n c rest → Reads n next → body_at bytes ≡ next c rest
begun next {rest = rest} {c = c} h reads = ap body_at h.text ∙ reads c h.lawful rest

reads_none : Reads 0 Tails.from_type
reads_none c l rest = Tails.body_at-from_type c rest

cut : (n : ℕ) → n < 12 → (c : CertFields) (rest : List ℕ) → IsCertFields c → is_whole n c rest ≡ false
    → body_at (front n c ++ rest) ≡ Err fault.Truncated
cut zero lt c rest l e = reads_none c l rest ∙ cut_at _ _ _ e
cut (suc zero) lt c rest l e = reads_type c l rest ∙ cut_at _ _ _ e
cut (suc (suc zero)) lt c rest l e = reads_nonce c l rest ∙ cut_at _ _ _ e
cut (suc (suc (suc zero))) lt c rest l e = reads_key c l rest ∙ cut_at _ _ _ e
cut (suc (suc (suc (suc zero)))) lt c rest l e = reads_serial c l rest ∙ cut_at _ _ _ e
cut (suc (suc (suc (suc (suc zero))))) lt c rest l e = reads_kind c l rest ∙ cut_at _ _ _ e
cut (suc (suc (suc (suc (suc (suc zero)))))) lt c rest l e = reads_key_id c l rest ∙ cut_at _ _ _ e
cut (suc (suc (suc (suc (suc (suc (suc zero))))))) lt c rest l e = reads_principals c l rest
    ∙ cut_at _ _ _ (sym (Tails.whole_ends (ends_at rest)) ∙ e)
cut (suc (suc (suc (suc (suc (suc (suc (suc zero)))))))) lt c rest l e = reads_validity c l rest ∙ cut_at _ _ _ e
cut (suc (suc (suc (suc (suc (suc (suc (suc (suc zero))))))))) lt c rest l e = reads_options c l rest ∙ cut_at _ _ _ e
cut (suc (suc (suc (suc (suc (suc (suc (suc (suc (suc zero)))))))))) lt c rest l e =
    reads_extensions c l rest ∙ cut_at _ _ _ e
cut (suc (suc (suc (suc (suc (suc (suc (suc (suc (suc (suc zero))))))))))) lt c rest l e =
    reads_reserved c l rest ∙ cut_at _ _ _ e
cut (suc (suc (suc (suc (suc (suc (suc (suc (suc (suc (suc (suc n)))))))))))) lt c rest l e = absurd (omega arith)

-- a fault of the bytes is found
pub body_at-fault : (bytes : List ℕ) (e : CertFault) → IsBytes bytes → e ≢ fault.NoMemory → IsCertFault bytes e
    → body_at bytes ≡ Err e
body_at-fault bytes fault.WrongType fits other (c, rest, h, w) = begun _ h reads_none
    ∙ bad_at _ _ _ w.0 _ w.1 (no_text _ _ _ (no_value type_of cert_name (λ _. Unit {0}) w.0.0
    (λ t e. (type_found cert_name w.0.0 t e, tt)) (λ x. w.2 (x.0, x.2))))
body_at-fault bytes fault.BadNonce fits other (c, rest, h, w) = begun _ h reads_type
    ∙ bad_at _ _ _ w.0 _ w.1 (fails _ _ _ (λ t. w.2 (eqb-true _ _ t)))
body_at-fault bytes fault.BadKey fits other (c, rest, h, w) = begun _ h reads_nonce
    ∙ bad_at _ _ _ w.0 _ w.1 (fails _ _ _ w.2)
body_at-fault bytes fault.BadSerial fits other (c, rest, h, w) = begun _ h reads_key
    ∙ bad_at _ _ _ w.0 _ w.1 (fails _ _ _ w.2)
body_at-fault bytes fault.BadKind fits other (c, rest, h, w) = begun _ h reads_serial
    ∙ bad_at _ _ _ w.0 _ w.1 (no_text _ _ _ (no_value kind_of kind_number (λ _. Unit {0}) w.0.0
    (λ kind e. (kind_found w.0.0 kind e, tt)) (λ x. w.2 x.0 x.2)))
body_at-fault bytes fault.BadKeyId fits other (c, rest, h, w) = begun _ h reads_kind
    ∙ bad_at _ _ _ w.0 _ w.1 (fails _ _ _ w.2)
body_at-fault bytes fault.BadPrincipals fits other (c, rest, h, w) = begun _ h reads_key_id
    ∙ bad_at _ _ _ w.0 _ w.1 (no_text _ _ _ (no_value principals_of principals_text _ w.0.0
    (λ x. principals_found w.0.0 x (inside bytes (front 6 c) rest w.0 h.text w.1 fits)) w.2))
body_at-fault bytes fault.BadValidity fits other (c, rest, h, w) = begun _ h reads_principals
    ∙ bad_at _ _ _ (Tails.paired w.0) _ (ap (option_map Tails.paired) w.1) (fails _ _ _ w.2)
body_at-fault bytes fault.BadOptions fits other (c, rest, h, w) = begun _ h reads_validity
    ∙ bad_at _ _ _ w.0 _ w.1 (no_text _ _ _ (no_value (options_of CriticalOptions c.kind) options_text _ w.0.0
    (λ x. options_of_found CriticalOptions c.kind w.0.0 x (inside bytes (front 8 c) rest w.0 h.text w.1 fits)) w.2))
body_at-fault bytes fault.BadExtensions fits other (c, rest, h, w) = begun _ h reads_options
    ∙ bad_at _ _ _ w.0 _ w.1 (no_text _ _ _ (no_value (options_of Extensions c.kind) options_text _ w.0.0
    (λ x. options_of_found Extensions c.kind w.0.0 x (inside bytes (front 9 c) rest w.0 h.text w.1 fits)) w.2))
body_at-fault bytes fault.BadReserved fits other (c, rest, h, w) = begun _ h reads_extensions
    ∙ bad_at _ _ _ w.0 _ w.1 (fails _ _ _ (λ t. w.2 (empty w.0.0 t)))
body_at-fault bytes fault.BadCa fits other (c, rest, h, w) = begun _ h reads_reserved
    ∙ bad_at _ _ _ w.0 _ w.1 (no_text _ _ _ (no_value key_of key_blob _ w.0.0 (key_of_found w.0.0) w.2))
body_at-fault bytes fault.TrailingBytes fits other (c, rest, h, some) = begun _ h reads_ca ∙ more c rest some
body_at-fault bytes fault.Truncated fits other (n, lt, c, rest, h, part) =
    ap body_at h.text ∙ cut n lt c rest h.lawful part
body_at-fault bytes fault.NoMemory fits other f = absurd (other refl)

-- ---- from what reading gives to what was returned

-- What was read is valid, and the bytes are its text.
pub found_from : (bytes : List ℕ) (r : Result CertFields CertFault) → IsBytes bytes → GivesRead r (body_at bytes)
    → IfOk r (λ c. IsCertFields c × (bytes ≡ body_text c))
found_from bytes (Ok c) fits gives = subst (λ (q : Result CertFields CertFault). Says bytes q) gives
    (body_at-says bytes fits)
found_from bytes (Err e) fits gives = tt

-- The text of valid fields was read, unless memory was refused.
pub only_from : (bytes : List ℕ) (r : Result CertFields CertFault) (c : CertFields) → IsCertFields c
    → bytes ≡ body_text c → GivesRead r (body_at bytes) → GivesRead r (Ok c)
only_from bytes r c l text gives = subst (λ (read : Result CertFields CertFault). GivesRead r read) (ap body_at text
    ∙ body_at-again c l) gives

-- The returned fault is a fault of the bytes.
pub fault_from : (bytes : List ℕ) (r : Result CertFields CertFault) → IsBytes bytes → GivesRead r (body_at bytes)
    → IfErr r (IsCertFault bytes)
fault_from bytes (Ok c) fits gives = tt
fault_from bytes (Err e) fits gives = at e gives
  where
    there : (e : CertFault) → body_at bytes ≡ Err e → IsCertFault bytes e
    there e is = subst (λ (q : Result CertFields CertFault). Says bytes q) is (body_at-says bytes fits)

    at : (e : CertFault) → GivesRead {X = CertFields} (Err e) (body_at bytes) → IsCertFault bytes e
    at fault.Truncated gives = there fault.Truncated gives
    at fault.WrongType gives = there fault.WrongType gives
    at fault.BadNonce gives = there fault.BadNonce gives
    at fault.BadKey gives = there fault.BadKey gives
    at fault.BadSerial gives = there fault.BadSerial gives
    at fault.BadKind gives = there fault.BadKind gives
    at fault.BadKeyId gives = there fault.BadKeyId gives
    at fault.BadPrincipals gives = there fault.BadPrincipals gives
    at fault.BadValidity gives = there fault.BadValidity gives
    at fault.BadOptions gives = there fault.BadOptions gives
    at fault.BadExtensions gives = there fault.BadExtensions gives
    at fault.BadReserved gives = there fault.BadReserved gives
    at fault.BadCa gives = there fault.BadCa gives
    at fault.TrailingBytes gives = there fault.TrailingBytes gives
    at fault.NoMemory gives = tt

-- A fault of the bytes was returned, unless memory was refused.
pub answered_from : (bytes : List ℕ) (r : Result CertFields CertFault) (e : CertFault) → IsBytes bytes
    → e ≢ fault.NoMemory → IsCertFault bytes e → GivesRead r (body_at bytes) → GivesRead r (Err e)
answered_from bytes r e fits other there gives = subst (λ (read : Result CertFields CertFault). GivesRead r read)
    (body_at-fault bytes e fits other there) gives

-- No text belongs to two values.
pub body_text-unique : (c d : CertFields) → IsCertFields c → IsCertFields d → body_text c ≡ body_text d → c ≡ d
body_text-unique c d lc ld e =
    let same : Ok c ≡ Ok d = sym (body_at-again c lc) ∙ ap body_at e ∙ body_at-again d ld in
    same_Ok c d same
  where
    same_Ok : (c d : CertFields) → ◌≡◌ {A = Result CertFields CertFault} (Ok c) (Ok d) → c ≡ d
    same_Ok c d e = ap (λ (r : Result CertFields CertFault). of r c) e
      where
        of : Result CertFields CertFault → CertFields → CertFields
        of (Ok x) other = x
        of (Err e) other = other

-- What reading a body gives is true of the bytes.
use Rattle.cert.proofs.Words.{Bool, CertFault, CertFields, CriticalOptions, Err, Extensions, IsBytes, IsCertFields}
use Rattle.cert.proofs.Words.{IsCertFault, LeavesRest, List, None, Ok, Option, Result, Some, ap, append-nil}
use Rattle.cert.proofs.Words.{append_assoc}
use Rattle.cert.proofs.Words.{are_principals, arith, body_text, both_ways, cases_Bool, cert_name}
use Rattle.cert.proofs.Words.{check, ends_at, eq-eqb, eqb, eqb-true, false, front, inl, inr, is_key_id}
use Rattle.cert.proofs.Words.{is_options, is_serial, is_some, is_validity, is_whole, key_blob, key_of, key_of_again}
use Rattle.cert.proofs.Words.{key_of_found, kind_number, kind_of, length, option_and_then, option_and_then_some}
use Rattle.cert.proofs.Words.{options_of, options_text, or_fault, principals_of, principals_text, refl, same_Some}
use Rattle.cert.proofs.Words.{string_at, string_takes, string_text, subst, sym, true, u32_at, u32_text, u64_at}
use Rattle.cert.proofs.Words.{u64_text, w32, w64, wide32, wide64, ℕ, ◌++◌, ◌<◌, ◌>>=◌, ◌^◌, ◌∙◌, ◌≡◌}
use Rattle.wire.proofs.Laws.{number_takes}
use Rattle.cert.specs.Reading.{body_at}
use Rattle.cert.specs.declared.cert_fault.CertFault.TheVariants as fault
use Rattle.lines.proofs.Strings.{IsBytes_string, empty}
use Rattle.cert.proofs.NestedLaws.{principals_found, principals_again}
use Rattle.text.proofs.ByteLemmas.{IsBytes_left}
use Rattle.cert.proofs.OptionLaws.{options_of_found, options_of_again}
use Rattle.cert.proofs.Tails
use Rattle.cert.proofs.Words.{are_parts, parts_text, strings_at, type_of}
use Rattle.lines.proofs.Subjects.{sample_key, strings_take, type_again, type_found}
use Rattle.cert.proofs.BodyParts.{with_type}
use Rattle.cert.proofs.BodyParts.{option_cases, not_empty, advance, kind_found, kind_again, IsBare, with_key_id}
use Rattle.cert.proofs.BodyParts.{with_principals, with_options, with_extensions, with_ca, with_ends, with_kind}
use Rattle.cert.proofs.BodyParts.{with_serial, with_key, with_nonce, sample, sample_is_lawful, sample_is_bare}

-- fields that were read are valid, and the bytes are their text; a fault that was found is a fault of the bytes
abbrev pub Says : List ℕ → Result CertFields CertFault → Type 0
Says bytes (Ok c) = IsCertFields c × (bytes ≡ body_text c)
Says bytes (Err e) = IsCertFault bytes e

pub becomes : (bytes : List ℕ) (r s : Result CertFields CertFault) → r ≡ s → Says bytes s → Says bytes r
becomes bytes r s e h = subst (λ (q : Result CertFields CertFault). Says bytes q) (sym e) h

pub says_end : (c : CertFields) → IsCertFields c → (bytes rest : List ℕ) → bytes ≡ front 12 c ++ rest
    → Says bytes (Tails.from_end c rest)
says_end c l bytes rest text = by (eqb (length rest) 0) refl
  where
    by : (b : Bool) → eqb (length rest) 0 ≡ b → Says bytes (check fault.TrailingBytes b >>= λ _. Ok c)
    by true e = (l, text ∙ ap (λ r. front 12 c ++ r) (empty rest e) ∙ append-nil (front 12 c))
    by false e = (c, rest, record { lawful = l; text = text }, not_empty rest e)

-- ---- how one field is read

-- The bytes begin with the first n of these valid fields, and the next one is read from the rest.
module _ (n : ℕ) (small : n < 12) (c : CertFields) (l : IsCertFields c) (bytes rest : List ℕ) (fits : IsBytes rest)
    (text : bytes ≡ front n c ++ rest) {S A : Type 0} (at : List ℕ → Option (S × List ℕ)) (source : S → List ℕ)
    (takes : (s : S) (left : List ℕ) → at rest ≡ Some (s, left) → rest ≡ source s ++ left)
    (whole : is_whole n c rest ≡ is_some (at rest)) (bad : CertFault)
    (next : A × List ℕ → Result CertFields CertFault) where
  here_left : LeavesRest bytes n c rest
  here_left = record { lawful = l; text = text }

  -- the field is cut short, or its value is judged
  says_judged : (f : S × List ℕ → Result (A × List ℕ) CertFault)
      → ((s : S × List ℕ) → at rest ≡ Some s → rest ≡ source s.0 ++ s.1 → Says bytes (f s >>= next))
      → Says bytes ((or_fault fault.Truncated (at rest) >>= f) >>= next)
  says_judged f judged =
      let read : Option (S × List ℕ) → Result CertFields CertFault = λ o. (or_fault fault.Truncated o >>= f) >>= next in
      option_cases (at rest) (Says bytes (read (at rest)))
      (λ none. becomes bytes _ (Err fault.Truncated) (ap read none)
      (n, small, c, rest, here_left, whole ∙ ap is_some none))
      (λ s is. becomes bytes _ (f s >>= next) (ap read is) (judged s is (takes s.0 s.1 is)))

  -- its value passes a test, or is bad
  pub says_tested : (test : S → Bool) (value : S → A)
      → (LeavesRest bytes n c rest → (s : S × List ℕ) → at rest ≡ Some s → test s.0 ≡ false → IsCertFault bytes bad)
      → ((s : S) (left : List ℕ) → test s ≡ true → IsBytes left → bytes ≡ front n c ++ source s ++ left
      → Says bytes (next (value s, left)))
      → Says bytes (Tails.tested bad at test value rest >>= next)
  says_tested test value is_bad on = says_judged (λ s. check bad (test s.0) >>= λ _. Ok (value s.0, s.1)) (λ s is here.
      let judge : Bool → Result CertFields CertFault = λ b. (check bad b >>= λ _. Ok (value s.0, s.1)) >>= next in
      elim (cases_Bool (test s.0)) [
        | inl passes ↦
            becomes bytes _ (next (value s.0, s.1)) (ap judge passes)
            (on s.0 s.1 passes (IsBytes_left rest (source s.0) s.1 fits here)
            (advance bytes (front n c) rest (source s.0) s.1 text here))
        | inr fails ↦ becomes bytes _ (Err bad) (ap judge fails) (is_bad here_left s is fails)
      ])

  -- it is the text of a value, or is bad
  pub says_made : (of : S → Option A) (written : A → S) (IsLawful : A → Type 0)
      → ((s : S) (x : A) (left : List ℕ) → rest ≡ source s ++ left → of s ≡ Some x → (s ≡ written x) × IsLawful x)
      → ((x : A) → IsLawful x → of (written x) ≡ Some x)
      → (LeavesRest bytes n c rest → (s : S × List ℕ) → at rest ≡ Some s
      → ¬ ((x : A) × IsLawful x × (s.0 ≡ written x)) → IsCertFault bytes bad)
      → ((x : A) (left : List ℕ) → IsLawful x → IsBytes left → bytes ≡ front n c ++ source (written x) ++ left
      → Says bytes (next (x, left)))
      → Says bytes (Tails.made bad at of rest >>= next)
  says_made of written IsLawful found again is_bad on = says_judged (λ s. or_fault bad (of s.0) >>= λ x. Ok (x, s.1))
      (λ s is here.
      let judge : Option A → Result CertFields CertFault = λ o. (or_fault bad o >>= λ x. Ok (x, s.1)) >>= next in
      option_cases (of s.0) (Says bytes (judge (of s.0))) (λ none. becomes bytes _ (Err bad) (ap judge none)
      (is_bad here_left s is (λ w. let some : None ≡ Some w.0 = sym none ∙ ap of w.2 ∙ again w.0 w.1 in cc))) (λ x of_x.
      let lawful = found s.0 x s.1 here of_x in
      let same : rest ≡ source (written x) ++ s.1 = here ∙ ap (λ t. source t ++ s.1) lawful.0 in
      becomes bytes _ (next (x, s.1)) (ap judge of_x)
      (on x s.1 lawful.1 (IsBytes_left rest (source (written x)) s.1 fits same)
      (advance bytes (front n c) rest (source (written x)) s.1 text same))))

-- ---- field by field: the bytes begin with valid fields, and are read from the next one on

-- If the bytes begin with the first n valid fields, then what reading the rest gives is true of the bytes.
abbrev SaysFrom : (CertFields → Type 0) → ℕ → (CertFields → List ℕ → Result CertFields CertFault) → Type 0
SaysFrom Is n from = (c : CertFields) → Is c → (bytes rest : List ℕ) → IsBytes rest → bytes ≡ front n c ++ rest
    → Says bytes (from c rest)

-- valid fields without options
abbrev IsStart : CertFields → Type 0
IsStart c = IsCertFields c × IsBare c

-- the string, or both ends, at the front of the rest
string_here : (rest : List ℕ) → IsBytes rest → (s left : List ℕ) → string_at rest ≡ Some (s, left)
    → rest ≡ string_text s ++ left
string_here rest fits s left is = string_takes rest s left fits is

abbrev ends_text : ℕ × ℕ → List ℕ
ends_text ends = u64_text ends.0 ++ u64_text ends.1

ends_here : (rest : List ℕ) → IsBytes rest → (ends : ℕ × ℕ) (left : List ℕ) → Tails.both_at rest ≡ Some (ends, left)
    → rest ≡ ends_text ends ++ left
ends_here rest fits ends left is =
    option_and_then_some {B = ℕ × ℕ × List ℕ} (λ a. option_and_then (λ b. Some (a.0, b.0, b.1)) (u64_at a.1))
    (u64_at rest) (Tails.flat (ends, left)) (Tails.flat_ends _ (ends, left) is) (λ a first more.
    option_and_then_some {B = ℕ × ℕ × List ℕ} (λ b. Some (a.0, b.0, b.1)) (u64_at a.1)
    (Tails.flat (ends, left)) more (λ b second same.
    let here = number_takes w64 (2 ^ 64) wide64 rest a.0 a.1 fits first in
    let fits_behind = IsBytes_left rest (u64_text a.0) a.1 fits here in
    here ∙ ap (λ t. u64_text a.0 ++ t) (number_takes w64 (2 ^ 64) wide64 a.1 b.0 b.1 fits_behind second)
    ∙ sym (append_assoc (u64_text a.0) (u64_text b.0) b.1)
    ∙ ap (λ (x : ℕ × ℕ × List ℕ). ends_text (x.0, x.1) ++ x.2) (same_Some _ _ same)))

says_ca : SaysFrom IsCertFields 11 Tails.from_ca
says_ca c l bytes rest fits text =
    says_made 11 (omega arith) c l bytes rest fits text string_at string_text (string_here rest fits) refl
    fault.BadCa _ key_of key_blob (λ x. length x ≡ 32) (λ s x left here e. key_of_found s x e) key_of_again
    (λ h s is none. (c, rest, h, (s, is, none)))
    (λ x left lawful fits text. says_end (record c { ca = x }) (with_ca c l x lawful) bytes left text)

says_reserved : SaysFrom IsCertFields 10 Tails.from_reserved
says_reserved c l bytes rest fits text =
    says_tested 10 (omega arith) c l bytes rest fits text string_at string_text (string_here rest fits) refl
    fault.BadReserved _ (λ s. eqb (length s) 0) (λ _. tt) (λ h s is fails. (c, rest, h, (s, is, not_empty s.0 fails)))
    (λ s left passes fits text. says_ca c l bytes left fits
    (text ∙ ap (λ t. front 10 c ++ string_text t ++ left) (empty s passes)))

says_extensions : SaysFrom IsCertFields 9 Tails.from_extensions
says_extensions c l bytes rest fits text =
    says_made 9 (omega arith) c l bytes rest fits text string_at string_text (string_here rest fits) refl
    fault.BadExtensions _ (options_of Extensions c.kind) options_text (λ x. is_options Extensions c.kind x ≡ true)
    (λ s x left here. options_of_found Extensions c.kind s x (IsBytes_string rest s left here fits))
    (options_of_again Extensions c.kind) (λ h s is none. (c, rest, h, (s, is, none)))
    (λ x left lawful. says_reserved (record c { extensions = x }) (with_extensions c l x lawful) bytes left)

says_options : SaysFrom IsCertFields 8 Tails.from_options
says_options c l bytes rest fits text =
    says_made 8 (omega arith) c l bytes rest fits text string_at string_text (string_here rest fits) refl
    fault.BadOptions _ (options_of CriticalOptions c.kind) options_text
    (λ x. is_options CriticalOptions c.kind x ≡ true)
    (λ s x left here. options_of_found CriticalOptions c.kind s x (IsBytes_string rest s left here fits))
    (options_of_again CriticalOptions c.kind) (λ h s is none. (c, rest, h, (s, is, none)))
    (λ x left lawful. says_extensions (record c { options = x }) (with_options c l x lawful) bytes left)

says_validity : SaysFrom IsCertFields 7 Tails.from_validity
says_validity c l bytes rest fits text =
    says_tested 7 (omega arith) c l bytes rest fits text Tails.both_at ends_text (ends_here rest fits)
    (Tails.whole_ends (ends_at rest)) fault.BadValidity _ (λ e. is_validity e.0 e.1) (λ e. e)
    (λ h s is fails. (c, rest, h, (Tails.flat s, Tails.flat_ends _ s is, both_ways _ fails)))
    (λ e left passes. says_options (record c { after = e.0; before = e.1 }) (with_ends c l e.0 e.1 passes) bytes left)

says_principals : SaysFrom IsCertFields 6 Tails.from_principals
says_principals c l bytes rest fits text =
    says_made 6 (omega arith) c l bytes rest fits text string_at string_text (string_here rest fits) refl
    fault.BadPrincipals _ principals_of principals_text (λ x. are_principals x ≡ true)
    (λ s x left here. principals_found s x (IsBytes_string rest s left here fits)) principals_again
    (λ h s is none. (c, rest, h, (s, is, none)))
    (λ x left lawful. says_validity (record c { principals = x }) (with_principals c l x lawful) bytes left)

says_key_id : SaysFrom IsCertFields 5 Tails.from_key_id
says_key_id c l bytes rest fits text =
    says_tested 5 (omega arith) c l bytes rest fits text string_at string_text (string_here rest fits) refl
    fault.BadKeyId _ is_key_id (λ s. s) (λ h s is fails. (c, rest, h, (s, is, both_ways _ fails)))
    (λ s left passes. says_principals (record c { key_id = s }) (with_key_id c l s passes) bytes left)

says_kind : SaysFrom IsStart 4 Tails.from_kind
says_kind c (l, bare) bytes rest fits text =
    says_made 4 (omega arith) c l bytes rest fits text u32_at u32_text
    (λ n left is. number_takes w32 (2 ^ 32) wide32 rest n left fits is) refl fault.BadKind _
    kind_of kind_number (λ _. Unit {0}) (λ n kind left here e. (kind_found n kind e, tt)) (λ kind _. kind_again kind)
    (λ h n is none. (c, rest, h, (n, is, λ kind e. none (kind, tt, e))))
    (λ kind left _. says_key_id (record c { kind = kind }) (with_kind c l bare kind) bytes left)

says_serial : SaysFrom IsStart 3 Tails.from_serial
says_serial c (l, bare) bytes rest fits text =
    says_tested 3 (omega arith) c l bytes rest fits text u64_at u64_text
    (λ n left is. number_takes w64 (2 ^ 64) wide64 rest n left fits is) refl
    fault.BadSerial _ is_serial (λ n. n) (λ h n is fails. (c, rest, h, (n, is, both_ways _ fails)))
    (λ n left passes. says_kind (record c { serial = n }) (with_serial c l n passes, bare) bytes left)

says_key : SaysFrom IsStart 2 Tails.from_key
says_key c (l, bare) bytes rest fits text =
    says_tested 2 (omega arith) c l bytes rest fits text (strings_at c.key_type) parts_text
    (strings_take c.key_type rest fits) refl fault.BadKey _ (are_parts c.key_type) (λ ps. ps)
    (λ h ps is fails. (c, rest, h, (ps, is, both_ways _ fails)))
    (λ ps left passes. says_serial (record c { key = ps }) (with_key c l ps passes, bare) bytes left)

says_nonce : SaysFrom IsStart 1 Tails.from_nonce
says_nonce c (l, bare) bytes rest fits text =
    says_tested 1 (omega arith) c l bytes rest fits text string_at string_text (string_here rest fits) refl
    fault.BadNonce _ (λ s. eqb (length s) 32) (λ s. s)
    (λ h s is fails. (c, rest, h, (s, is, λ e. both_ways _ fails (eq-eqb _ _ e))))
    (λ s left passes. says_key (record c { nonce = s }) (with_nonce c l s (eqb-true _ _ passes), bare) bytes left)

says_type : SaysFrom IsStart 0 Tails.from_type
says_type c (l, bare) bytes rest fits text =
    says_made 0 (omega arith) c l bytes rest fits text string_at string_text (string_here rest fits) refl
    fault.WrongType _ type_of cert_name (λ _. Unit {0}) (λ s t left here e. (type_found cert_name s t e, tt))
    (λ t _. type_again t) (λ h s is none. (c, rest, h, (s, is, λ w. none (w.0, tt, w.1))))
    (λ t left _. says_nonce (record c { key_type = t; key = sample_key t }) (with_type c l t, bare) bytes left)

-- what reading gives is true of the bytes
pub body_at-says : (bytes : List ℕ) → IsBytes bytes → Says bytes (body_at bytes)
body_at-says bytes fits =
    becomes bytes (body_at bytes) (Tails.from_type sample bytes) (Tails.body_at-from_type sample bytes)
    (says_type sample (sample_is_lawful, sample_is_bare) bytes bytes fits refl)

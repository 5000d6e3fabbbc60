-- Valid fields, and the steps of reading them.
use Rattle.cert.proofs.Words.{CertFields, CriticalOptions, Extensions, Host, IsCertFields, Kind, List, None, Option}
use Rattle.cert.proofs.Words.{OptionField, Pair, Some, User, [], ap, append_assoc, are_principals, arith, both_ways}
use Rattle.cert.proofs.Words.{codes, eq-eqb, eqb, false, is_key_id, is_options, is_serial, is_some, is_validity}
use Rattle.cert.proofs.Words.{kind_number, kind_of, length, nat_tests, refl, sym, true, ℕ, ◌++◌, ◌<◌, ◌^◌, ◌∙◌, ◌∷◌}
use Rattle.cert.proofs.Words.{◌≡◌, ◌≢◌}
use Rattle.cert.proofs.Words.{KeyType, are_parts}
use Rattle.lines.proofs.Subjects.{sample_key, sample_key_passes}
use Rattle.lines.specs.declared.subject.KeyType.TheVariants.{Ed25519}
use Rattle.std.proofs.Common.{replicate}

pub option_cases : {A : Type 0} (o : Option A) (P : Type 0) → (o ≡ None → P) → ((x : A) → o ≡ Some x → P) → P
option_cases None P none some = none refl
option_cases (Some x) P none some = some x refl

-- a text that isn't that of a valid value is read as none
pub no_value : {S X : Type 0} (of : S → Option X) (value_text : X → S) (IsLawful : X → Type 0) (s : S)
    → ((x : X) → of s ≡ Some x → (s ≡ value_text x) × IsLawful x)
    → ¬ ((x : X) × IsLawful x × (s ≡ value_text x)) → of s ≡ None
no_value of value_text IsLawful s found none =
    option_cases (of s) (of s ≡ None) (λ e. e) (λ x e. let is = found x e in absurd (none (x, is.1, is.0)))

pub none_of : {A : Type 0} (o : Option A) → is_some o ≡ false → o ≡ None
none_of None e = refl
none_of (Some x) e = absurd cc

pub not_empty : (t : List ℕ) → eqb (length t) 0 ≡ false → t ≢ []
not_empty t e none = both_ways _ e (eq-eqb _ _ (ap length none))

-- the bytes, with one more field before the rest
pub advance : (bytes before rest text after : List ℕ) → bytes ≡ before ++ rest → rest ≡ text ++ after
    → bytes ≡ before ++ text ++ after
advance bytes before rest text after e f = e ∙ ap (λ r. before ++ r) f ∙ sym (append_assoc before text after)

-- the kind that was read from a number writes this number
pub kind_found : (n : ℕ) (kind : Kind) → kind_of n ≡ Some kind → n ≡ kind_number kind
kind_found n User e = grind (arith, nat_tests)
kind_found n Host e = grind (arith, nat_tests)

pub kind_again : (kind : Kind) → kind_of (kind_number kind) ≡ Some kind
kind_again User = refl
kind_again Host = refl

pub kind_small : (kind : Kind) → kind_number kind < 2 ^ 32
kind_small User = omega arith
kind_small Host = omega arith

-- ---- valid fields

-- a certificate without options
pub sample : CertFields
sample = record {
  key_type = Ed25519;
  nonce = replicate 32 0;
  key = sample_key Ed25519;
  serial = 1;
  kind = User;
  key_id = codes "a/a";
  principals = codes
      "a" ∷ [];
  after = 0;
  before = 1;
  options = [];
  extensions = [];
  ca = replicate 32 0;
}

pub sample_is_lawful : IsCertFields sample
unfolding sample
sample_is_lawful = record {
  nonce = refl;
  key = refl;
  serial = refl;
  key_id = refl;
  principals = refl;
  validity = refl;
  options = refl;
  extensions = refl;
  ca = refl;
}

-- no options in either field
abbrev pub IsBare : CertFields → Type 0
IsBare c = (c.options ≡ []) × (c.extensions ≡ [])

pub sample_is_bare : IsBare sample
unfolding sample
sample_is_bare = (refl, refl)

-- ---- valid fields c with one field replaced

module _ (c : CertFields) (l : IsCertFields c) where
  pub with_nonce : (x : List ℕ) → length x ≡ 32 → IsCertFields (record c { nonce = x })
  with_nonce x h = assumption (h, l)

  pub with_type : (t : KeyType) → IsCertFields (record c { key_type = t; key = sample_key t })
  with_type t = let passes = sample_key_passes t in assumption (passes, l)

  pub with_key : (x : List (List ℕ)) → are_parts c.key_type x ≡ true → IsCertFields (record c { key = x })
  with_key x h = assumption (h, l)

  pub with_serial : (x : ℕ) → is_serial x ≡ true → IsCertFields (record c { serial = x })
  with_serial x h = assumption (h, l)

  pub with_key_id : (x : List ℕ) → is_key_id x ≡ true → IsCertFields (record c { key_id = x })
  with_key_id x h = assumption (h, l)

  pub with_principals : (x : List (List ℕ)) → are_principals x ≡ true → IsCertFields (record c { principals = x })
  with_principals x h = assumption (h, l)

  pub with_ends : (a b : ℕ) → is_validity a b ≡ true → IsCertFields (record c { after = a; before = b })
  with_ends a b h = assumption (h, l)

  pub with_options : (x : List Pair) → is_options CriticalOptions c.kind x ≡ true
      → IsCertFields (record c { options = x })
  with_options x h = assumption (h, l)

  pub with_extensions : (x : List Pair) → is_options Extensions c.kind x ≡ true
      → IsCertFields (record c { extensions = x })
  with_extensions x h = assumption (h, l)

  pub with_ca : (x : List ℕ) → length x ≡ 32 → IsCertFields (record c { ca = x })
  with_ca x h = assumption (h, l)

no_options : (field : OptionField) (kind : Kind) (ps : List Pair) → ps ≡ [] → is_options field kind ps ≡ true
no_options field User ps e = ap (is_options field User) e
no_options field Host ps e = ap (is_options field Host) e

-- valid fields without options, with another kind
pub with_kind : (c : CertFields) → IsCertFields c → IsBare c → (kind : Kind) → IsCertFields (record c { kind = kind })
with_kind c l bare kind =
    assumption (no_options CriticalOptions kind c.options bare.0, no_options Extensions kind c.extensions bare.1, l)

-- Steps of reading: if one fails, reading fails with its fault.
use Rattle.cert.proofs.Words.{CertFault, Err, GivesRead, KeyType, Kind, List, None, Ok, Option, Result, Some, ap, inl}
use Rattle.cert.proofs.Words.{inr, option_and_then, or_fault, refl, subst, sym, ℕ, ◌>>=◌, ◌≡◌}
use Rattle.std.proofs.Common.{◌⊎◌}
use Rattle.cert.specs.Reading.{GivesRest, both_options_at, end_at, from_key_id_at, names_at, validity_at}
use Rattle.cert.specs.declared.cert_fault.CertFault.TheVariants as fault

-- reading gives this fault, or memory was refused
abbrev pub IsFound : {X : Type 0} → CertFault → Result X CertFault → Type 0
IsFound e read = (e ≡ fault.NoMemory) ⊎ (read ≡ Err e)

pub found : {X : Type 0} (e : CertFault) (read : Result X CertFault) → GivesRead (Err e) read → IsFound e read
found fault.Truncated read h = inr h
found fault.WrongType read h = inr h
found fault.BadNonce read h = inr h
found fault.BadKey read h = inr h
found fault.BadSerial read h = inr h
found fault.BadKind read h = inr h
found fault.BadKeyId read h = inr h
found fault.BadPrincipals read h = inr h
found fault.BadValidity read h = inr h
found fault.BadOptions read h = inr h
found fault.BadExtensions read h = inr h
found fault.BadReserved read h = inr h
found fault.BadCa read h = inr h
found fault.TrailingBytes read h = inr h
found fault.NoMemory read h = inl refl

same : (X : Type 0) (e : CertFault) → GivesRead {X = X} (Err e) (Err e)
same X fault.Truncated = refl
same X fault.WrongType = refl
same X fault.BadNonce = refl
same X fault.BadKey = refl
same X fault.BadSerial = refl
same X fault.BadKind = refl
same X fault.BadKeyId = refl
same X fault.BadPrincipals = refl
same X fault.BadValidity = refl
same X fault.BadOptions = refl
same X fault.BadExtensions = refl
same X fault.BadReserved = refl
same X fault.BadCa = refl
same X fault.TrailingBytes = refl
same X fault.NoMemory = tt

pub gives : {X : Type 0} (e : CertFault) (read : Result X CertFault) → IsFound e read → GivesRead (Err e) read
gives {X} e read (inl none) = subst (λ (e : CertFault). GivesRead {X = X} (Err e) read) (sym none) tt
gives {X} e read (inr is) = subst (λ (r : Result X CertFault). GivesRead (Err e) r) (sym is) (same X e)

-- the remaining bytes don't matter for a fault
pub found_rest : {X : Type 0} (e : CertFault) (rest : List ℕ) (read : Result (X × List ℕ) CertFault)
    → GivesRest {X = X} (Err e) rest read → GivesRead (Err e) read
found_rest fault.Truncated rest read h = h
found_rest fault.WrongType rest read h = h
found_rest fault.BadNonce rest read h = h
found_rest fault.BadKey rest read h = h
found_rest fault.BadSerial rest read h = h
found_rest fault.BadKind rest read h = h
found_rest fault.BadKeyId rest read h = h
found_rest fault.BadPrincipals rest read h = h
found_rest fault.BadValidity rest read h = h
found_rest fault.BadOptions rest read h = h
found_rest fault.BadExtensions rest read h = h
found_rest fault.BadReserved rest read h = h
found_rest fault.BadCa rest read h = h
found_rest fault.TrailingBytes rest read h = h
found_rest fault.NoMemory rest read h = tt

-- the fault of a step is that of the whole
pub stops : {A B : Type 0} (e : CertFault) (read : Result A CertFault) (next : A → Result B CertFault)
    → GivesRead (Err e) read → GivesRead (Err e) (read >>= next)
stops e read next h = gives e (read >>= next) (elim (found e read h) [
  | inl none ↦ inl none
  | inr is ↦ inr (ap (λ r. r >>= next) is)
])

-- and after a step that succeeded, the result is that of the steps after it
pub goes_on : {A B : Type 0} (read : Result A CertFault) (x : A) (next : A → Result B CertFault) → read ≡ Ok x
    → (read >>= next) ≡ next x
goes_on read x next is = ap (λ r. r >>= next) is

pub stops_behind : {A B : Type 0} (e : CertFault) (read : Result A CertFault) (x : A) (next : A → Result B CertFault)
    → read ≡ Ok x → GivesRead (Err e) (next x) → GivesRead (Err e) (read >>= next)
stops_behind {A} {B} e read x next is h =
    subst (λ (r : Result B CertFault). GivesRead (Err e) r) (sym (goes_on read x next is)) h

joined : {A B C : Type 0} (r : Result A CertFault) (f : A → Result B CertFault) (g : B → Result C CertFault)
    → ((r >>= f) >>= g) ≡ (r >>= λ x. f x >>= g)
joined (Ok x) f g = refl
joined (Err e) f g = refl

-- the fields from the key id on in four steps
pub in_four : (key_type : KeyType) (nonce : List ℕ) (key : List (List ℕ)) (serial : ℕ) (kind : Kind) (bytes : List ℕ)
    → from_key_id_at key_type nonce key serial kind bytes ≡ (names_at bytes
    >>= λ names. validity_at names.1
    >>= λ ends. both_options_at kind ends.1
    >>= λ options. end_at options.1
    >>= λ ca. Ok (record {
      key_type = key_type;
      nonce = nonce;
      key = key;
      serial = serial;
      kind = kind;
      key_id = names.0.0;
      principals = names.0.1;
      after = ends.0.0;
      before = ends.0.1;
      options = options.0.0;
      extensions = options.0.1;
      ca = ca;
    }))
unfolding from_key_id_at
in_four key_type nonce key serial kind bytes = simp joined

-- a fault in a part of an option is a fault of the option
pub passes_on : {A B : Type 0} (bad e : CertFault) (o : Option A) (f : A → Option B)
    → GivesRead (Err e) (or_fault bad o) → GivesRead (Err e) (or_fault bad (option_and_then f o))
passes_on {A} {B} bad e o f h = gives e _ (elim (found e _ h) [
  | inl none ↦ inl none
  | inr is ↦ inr (at o is)
])
  where
    at : (o : Option A) → or_fault bad o ≡ Err e → or_fault bad (option_and_then f o) ≡ Err e
    at None is = ap (λ (r : Result A CertFault). of r) is
      where
        of : Result A CertFault → Result B CertFault
        of (Ok x) = Err bad
        of (Err e) = Err e
    at (Some x) is = absurd cc

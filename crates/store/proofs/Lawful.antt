-- The state of an office is valid after every history.
use Rattle.store.proofs.Words.{AllByRecursion, AreCounted, Arrival, Bool, Ca, Certificate, Department, Err, First}
use Rattle.store.proofs.Words.{IfSome, IsCertificate, IsHistory, IsLawful, IsSigned, List, Message, None, Ok, Opening}
use Rattle.store.proofs.Words.{Option, Refusal, Renewal, Result, Signature, Some, View, [], add_accepted, after}
use Rattle.store.proofs.Words.{all_more, and_parts, arith, ca_from_now, change, cond, eq_by_cmp, eqb-true, false}
use Rattle.store.proofs.Words.{first_holding, fold, fold_push, is_department, is_key_id_revoked, is_message}
use Rattle.store.proofs.Words.{is_one_that, is_range_revoked, is_renewal_permitted_by, issued, judged, judged_is_first}
use Rattle.store.proofs.Words.{kept_by, key_size, length, message_lawful, nat_cmp, nat_lt, newest_key, none_holds, not}
use Rattle.store.proofs.Words.{refl, refusals, renewed, renewed_certificate, signed_at, slice_cmp, slice_get}
use Rattle.store.proofs.Words.{state_after, subst, suc, sym, true, with_arrival, with_certificate, with_one_more, zero}
use Rattle.store.proofs.Words.{ℕ, ◌++◌, ◌+◌, ◌-◌, ◌∷◌, ◌≡◌}
use Rattle.std.specs.FinMap.Entries.{find}
use Rattle.std.proofs.lemmas.Bool.{ltb-false, ltb-true}
use Rattle.message.specs.Values.{is_issue, is_renewal, is_delivery, is_signature}
use Rattle.message.specs.declared.issue.Issue.{Issue}
use Rattle.message.specs.declared.delivery.Delivery.{Delivery}
use Rattle.message.specs.declared.kinds.Message.TheVariants as message
use Rattle.office.specs.Certificates.{certificate_for, kind_or_user}
use Rattle.office.specs.State.{key_or}
use Rattle.office.specs.Machine.{State, certificate_of, department_named, next_serial}
use Rattle.office.specs.Machine.{department_of_serial}
use Rattle.office.specs.Machine.{has_any, opened}
use Rattle.office.specs.Views.{HasSerial}
use Rattle.office.specs.Permissions.{is_permitted_by, is_permitted_to, is_renewal_permitted_to, may_have}
use Rattle.message.specs.Permissions.{are_listed, are_options_permitted, is_life_permitted}
use Rattle.message.specs.Permissions.{meet_rules}
use Rattle.values.specs.Names.{name_of}
use Rattle.office.proofs.Issuable.{issuable_certificate, renewable_certificate}
use Rattle.office.specs.History.{state}
use Rattle.store.proofs.Ascending.{IsEntry, entries_put, names_put, texts_put}

-- ---- parts of a valid state

-- for either of two states
pub of_either : (P : State → Type 0) (b : Bool) (s t : State) → P s → P t → P (cond b s t)
of_either P true s t p q = p
of_either P false s t p q = q

all_get : {X : Type 0} (P : X → Type 0) (xs : List X) (k : ℕ) → AllByRecursion P xs → IfSome (slice_get xs k) P
all_get P [] k all = tt
all_get P (x ∷ xs) zero all = all.0
all_get P (x ∷ xs) (suc k) all = all_get P xs k all.1

abbrev IsIssued : Certificate → Type 0
IsIssued c = IsCertificate c × IsSigned c

-- the certificate with a serial
issued_lawful : (s : State) (serial : ℕ) → IsLawful s → IfSome (certificate_of s serial) IsIssued
issued_lawful s serial lawful =
    elim (nat_lt serial s.opening.first)
    as (λ b. IfSome (cond b None (slice_get s.certificates (serial - s.opening.first))) IsIssued) [
      | true ↦ tt
      | false ↦ all_get IsIssued s.certificates (serial - s.opening.first) lawful.certificates
    ]

find_lawful : (name : List ℕ) (es : List (List ℕ × Department)) → AllByRecursion IsEntry es
    → IfSome (find (slice_cmp nat_cmp) name es) (λ d. is_department d ≡ true)
find_lawful name [] all = tt
find_lawful name (e ∷ es) all =
    elim (eq_by_cmp (slice_cmp nat_cmp) name e.0)
    as (λ b. IfSome (cond b (Some e.1) (find (slice_cmp nat_cmp) name es)) (λ d. is_department d ≡ true)) [
      | true ↦ all.0.0
      | false ↦ find_lawful name es all.1
    ]

-- the department with a name
named_lawful : (s : State) (name : List ℕ) → IsLawful s
    → IfSome (department_named s name) (λ d. is_department d ≡ true)
named_lawful s name lawful = find_lawful name s.departments lawful.departments

newest_size : (o : Opening) (ca : Option Ca) → length o.ca ≡ 32 → IfSome ca (λ ca. length ca.key ≡ 32)
    → length (key_or o.ca ca) ≡ 32
newest_size o (Some ca) size one = one
newest_size o None size one = size

-- the key of the newest CA
newest_lawful : (s : State) → IsLawful s → length (newest_key s.opening s.cas) ≡ 32
newest_lawful s lawful =
    newest_size s.opening (slice_get s.cas (length s.cas - 1)) lawful.opening.ca
    (all_get (λ ca. length ca.key ≡ 32) s.cas (length s.cas - 1) lawful.cas)

-- ---- a new certificate

counted_push : (first : ℕ) (cs : List Certificate) (c : Certificate) → AreCounted first cs
    → c.fields.serial ≡ first + length cs → AreCounted first (cs ++ c ∷ [])
counted_push first [] c up is = (omega (arith, is), tt)
counted_push first (x ∷ cs) c up is = (up.0, counted_push (suc first) cs c up.1 (omega (arith, is)))

not_false : (b : Bool) → not b ≡ false → b ≡ true
not_false true e = refl
not_false false e = absurd cc

-- a view that has only the state's counters
abbrev counters : State → View
counters s = record {
  opening = record { ref_ptr = (0, 0); now = s.opening };
  next = next_serial s;
  version = s.version;
  date = s.date;
  cas = record { ref_ptr = (0, 0); now = s.cas };
  department = None;
  certificate = None;
  is_revoked = false;
  is_key_id_revoked = false;
  has_revoked_key_ids = false;
}

has_serial : (s : State) → IsLawful s → nat_lt s.opening.last (next_serial s) ≡ false → HasSerial (counters s)
has_serial s lawful left = record { opening = lawful.opening; next = omega arith; left = ltb-false _ _ left }

made_by_issue : (s : State) (i : Issue) (ca nonce : List ℕ) (d : Option Department) → HasSerial (counters s)
    → IfSome d (λ d. is_department d ≡ true) → is_issue i ≡ true → is_permitted_by d i ≡ true → length ca ≡ 32
    → length nonce ≡ 32 → IsCertificate (certificate_for i (next_serial s) (kind_or_user d) ca nonce)
made_by_issue s i ca nonce (Some d) left department issue permitted ca_size nonce_size =
    issuable_certificate (counters s) d i ca nonce
    (record { serial = left; department = department; issue = issue; permitted = permitted }) ca_size nonce_size
made_by_issue s i ca nonce None left department issue permitted ca_size nonce_size = absurd cc

renewal_order : (d : Option Department) (c : Certificate) (r : Renewal) → is_renewal_permitted_by d c r ≡ true
    → nat_lt r.after r.before ≡ true
renewal_order (Some d) c r e =
    let rest = and_parts (are_listed d.extensions c.fields.extensions) _
    (and_parts (are_options_permitted d c.fields.options) _
    (and_parts (meet_rules d (name_of c.fields.key_id) c.fields.principals) _ e).1).1 in
    (and_parts _ _ (and_parts (is_life_permitted d r.after r.before) _ rest.1).0).0
renewal_order None c r e = absurd cc

with_one_lawful : (s : State) (c : Certificate) → IsLawful s → IsCertificate c → c.signature ≡ None
    → c.fields.serial ≡ next_serial s → IsLawful (with_certificate s c)
with_one_lawful s c lawful is unsigned serial =
    assumption (
      counted_push s.opening.first s.certificates c lawful.serials serial,
      all_more IsIssued s.certificates c lawful.certificates
          (is, subst (λ o. IfSome o (λ (x : Signature). length x.bytes ≡ 64)) (sym unsigned) tt),
    )

renewed_lawful : (s : State) (caller : List ℕ) (r : Renewal) (nonce : List ℕ) (o : Option Certificate)
    (d : Option Department) → IsLawful s → HasSerial (counters s) → is_renewal r ≡ true → length nonce ≡ 32
    → IfSome o IsIssued → is_one_that (λ c. not (is_renewal_permitted_to s.opening caller d c r)) o ≡ false
    → certificate_of s r.serial ≡ o
    → IsLawful (with_one_more s (renewed s r nonce))
renewed_lawful s caller r nonce None d lawful left renewal size is permitted e = rw e lawful
renewed_lawful s caller r nonce (Some c) d lawful left renewal size is permitted e =
    let order : nat_lt r.after r.before ≡ true =
    renewal_order d c r (and_parts (is_renewal_permitted_by d c r)
    (may_have s.opening caller d c.fields.key_id c.fields.principals)
    (not_false (is_renewal_permitted_to s.opening caller d c r) permitted)).0 in
    let ca = newest_key s.opening s.cas in
    let made : IsCertificate (renewed_certificate c r (next_serial s) ca nonce) =
    renewable_certificate (counters s) c r ca nonce
    (record { serial = left; certificate = is.0; renewal = renewal; order = ltb-true _ _ order })
    (newest_lawful s lawful) size in
    rw e (with_one_lawful s (renewed_certificate c r (next_serial s) ca nonce) lawful made refl refl)

-- ---- certificates with a signature

signed_all : (cs : List Certificate) (place : ℕ) (s : Signature) → length s.bytes ≡ 64 → AllByRecursion IsIssued cs
    → AllByRecursion IsIssued (signed_at cs place s)
signed_all [] place s size all = tt
signed_all (c ∷ cs) zero s size all =
    let old = all.0.0 in ((record { department = old.department; fields = old.fields; body = old.body }, size), all.1)
signed_all (c ∷ cs) (suc place) s size all = (all.0, signed_all cs place s size all.1)

signed_counted : (first : ℕ) (cs : List Certificate) (place : ℕ) (s : Signature) → AreCounted first cs
    → AreCounted first (signed_at cs place s)
signed_counted first [] place s up = tt
signed_counted first (c ∷ cs) zero s up = up
signed_counted first (c ∷ cs) (suc place) s up = (up.0, signed_counted (suc first) cs place s up.1)

-- ---- the state after an accepted message

signature_size : (d : Delivery) → is_delivery d ≡ true → length d.signature.bytes ≡ 64
signature_size d e =
    let signature : is_signature d.signature ≡ true = (and_parts _ _ (and_parts _ _ e).1).1 in
    eqb-true _ _ (and_parts _ _ signature).0

-- the state after an accepted message is still valid
keeps_lawful : (s : State) (caller : List ℕ) (m : Message) (moment : ℕ) (nonce : List ℕ) → is_message m ≡ true
    → first_holding (refusals s caller m moment) ≡ None → length nonce ≡ 32 → IsLawful s
    → IsLawful (after s m moment nonce)
keeps_lawful s caller (message.Department d) moment nonce is allowed size lawful =
    assumption (
      entries_put d s.departments is lawful.departments,
      names_put d s.departments lawful.departments lawful.names,
    )
keeps_lawful s caller (message.Issue i) moment nonce is allowed size lawful =
    let tests = none_holds (refusals s caller (message.Issue i) moment) allowed in
    let made : IsCertificate (issued s i nonce) =
    made_by_issue s i (newest_key s.opening s.cas) nonce (department_named s i.department)
    (has_serial s lawful tests.1.1.1.1.1.1.0) (named_lawful s i.department lawful) is
    (and_parts (is_permitted_by (department_named s i.department) i)
    (may_have s.opening caller (department_named s i.department) i.key_id i.principals)
    (not_false (is_permitted_to s.opening caller (department_named s i.department) i) tests.1.1.1.0)).0
    (newest_lawful s lawful) size in
    with_one_lawful s (issued s i nonce) lawful made refl refl
keeps_lawful s caller (message.Renew r) moment nonce is allowed size lawful =
    let tests = none_holds (refusals s caller (message.Renew r) moment) allowed in
    renewed_lawful s caller r nonce (certificate_of s r.serial) (department_of_serial s r.serial) lawful
    (has_serial s lawful tests.1.1.1.1.1.1.1.0) is size (issued_lawful s r.serial lawful) tests.1.0 refl
keeps_lawful s caller (message.Deliver d) moment nonce is allowed size lawful =
    let place = d.serial - s.opening.first in
    assumption (
      signed_all s.certificates place d.signature (signature_size d is) lawful.certificates,
      signed_counted s.opening.first s.certificates place d.signature lawful.serials,
    )
keeps_lawful s caller (message.RevokeSerial serial) moment nonce is allowed size lawful =
    of_either IsLawful (s.revoked serial) s _ lawful (assumption)
keeps_lawful s caller (message.RevokeRange r) moment nonce is allowed size lawful =
    of_either IsLawful (is_range_revoked s r) s _ lawful (assumption)
keeps_lawful s caller (message.RevokeKeyId key_id) moment nonce is allowed size lawful =
    let ids = texts_put key_id s.revoked_key_ids lawful.key_ids in
    of_either IsLawful (is_key_id_revoked s key_id) s _ lawful (assumption)
keeps_lawful s caller (message.Rollover k) moment nonce is allowed size lawful =
    let cas = all_more (λ ca. length ca.key ≡ 32) s.cas (ca_from_now s k.key) lawful.cas (key_size k is) in
    of_either IsLawful (has_any s.revoked_key_ids) _ _ (assumption) (assumption)

-- ---- after a history

first_keeps : (o : Opening) (fs : List First) (a : Arrival) (r : Result First Refusal)
    → judged (state_after o fs) (kept_by fs) a ≡ r → length a.nonce ≡ 32 → IsLawful (state_after o fs)
    → IsLawful (state_after o (add_accepted fs r))
first_keeps o fs a (Err x) e size lawful = lawful
first_keeps o fs a (Ok f) e size lawful =
    let s = state_after o fs in
    let is = judged_is_first s (kept_by fs) a f e in
    let kept : IsLawful (after s f.message a.moment a.nonce) =
    keeps_lawful s a.caller f.message a.moment a.nonce (message_lawful a.bytes f.message is.message) is.allowed size
    lawful in
    subst IsLawful (sym (fold_push change (opened o) fs f))
    (subst (λ (x : Arrival). IsLawful (after s f.message x.moment x.nonce)) (sym is.arrival) kept)

along : (o : Opening) (fs : List First) (l : List Arrival) → AllByRecursion (λ a. length a.nonce ≡ 32) l
    → IsLawful (state_after o fs) → IsLawful (state_after o (fold (with_arrival o) fs l))
along o fs [] sizes lawful = lawful
along o fs (a ∷ l) sizes lawful = along o (with_arrival o fs a) l sizes.1 (first_keeps o fs a _ refl sizes.0 lawful)

-- every history leaves a valid state
pub lawful_after : (o : Opening) (l : List Arrival) → IsHistory o l → IsLawful (state o l)
lawful_after o l history = along o [] l history.nonces (let is = history.office.opening in assumption (is, is.ca, tt))

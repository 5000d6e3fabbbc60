-- An accepted message adds only new rows: no row has their number or key, and the department of a certificate exists.
use Rattle.store.proofs.Words.{AllByRecursion, AreCounted, Arrival, Bool, Ca, Certificate, Decision, Department, HasOne}
use Rattle.store.proofs.Words.{IsAccepted, IsLawful, Kept, List, Message, None, Option, Past, Renewal, Some, State, []}
use Rattle.store.proofs.Words.{after, ap, arith, bytes_eq, bytes_eq-Decides, ca_from_now, ca_rows, cert_row}
use Rattle.store.proofs.Words.{certificate_of, department_named, department_row, eq_by_cmp, false, first_holding}
use Rattle.store.proofs.Words.{has_any, has_key, inl, inr, is_eq-slice_cmp, is_message, is_one_that}
use Rattle.store.proofs.Words.{issued, judged, judged_is_first, kept_at, key_blob}
use Rattle.store.proofs.Words.{key_of_again, key_size, length, length-append, length-signed_at, list_any, map}
use Rattle.store.proofs.Words.{message_with_text, nat_cmp, newest_key, none_holds, not, option_map, or_parts, refl}
use Rattle.store.proofs.Words.{refusals, renewed, renewed_certificate, request_row, slice_cmp, state_at, subst, suc}
use Rattle.store.proofs.Words.{sym, true, with_one_more, written, ℕ, ◌++◌, ◌+◌, ◌-◌, ◌∙◌, ◌∷◌, ◌≡◌, ◌≤◌}
use Rattle.std.proofs.Common.{◌⊎◌}
use Rattle.std.specs.FinMap.Entries.{find}
use Rattle.std.proofs.lemmas.List.{same_from_push}
use Rattle.lines.specs.Keys.{key_of}
use Rattle.message.specs.declared.kinds.Message.TheVariants as message
use Rattle.office.specs.State.{is_ca, department_of_serial}
use Rattle.office.specs.Machine.{next_serial}
use Rattle.message.specs.Permissions.{is_missing}
use Rattle.office.specs.Permissions.{is_renewal_permitted_to}
use Rattle.store.proofs.Ascending.{IsEntry}
use Rattle.store.proofs.Accepted.{ok_from_is_ok_and}
use Rattle.store.proofs.Lawful.{of_either}

-- ---- the request

-- its caller has not used its request ID before
pub request_new : (a : Arrival) (kept : List Kept) → list_any (has_key a) kept ≡ false
    → HasOne (λ k. (k.caller ≡ a.caller) × (k.key ≡ a.key)) (map request_row kept) → ⊥
request_new a [] none (k, here, same) = here
request_new a (j ∷ kept) none (k, inl is, (caller, key)) =
    let one : bytes_eq j.caller a.caller ≡ true =
    (bytes_eq-Decides j.caller a.caller).1 (ap (λ r. r.caller) (sym is) ∙ caller) in
    let two : bytes_eq j.key a.key ≡ true = (bytes_eq-Decides j.key a.key).1 (ap (λ r. r.key) (sym is) ∙ key) in
    let hit : has_key a j ≡ true = rw (one, two) refl in
    let wrong : true ≡ false = sym hit ∙ (or_parts (has_key a j) (list_any (has_key a) kept) none).0 in cc
request_new a (j ∷ kept) none (k, inr here, same) =
    request_new a kept (or_parts (has_key a j) (list_any (has_key a) kept) none).1 (k, here, same)

-- ---- certificates

-- no certificate has the next serial
pub serial_new : (first next : ℕ) (cs : List Certificate) → AreCounted first cs → next ≡ first + length cs
    → HasOne (λ d. d.serial ≡ next) (map cert_row cs) → ⊥
serial_new first next [] up is (d, here, same) = here
serial_new first next (x ∷ cs) up is (d, inl row, same) =
    let own : d.serial ≡ x.fields.serial = ap (λ r. r.serial) row in omega (arith, own, same, up.0, is)
serial_new first next (x ∷ cs) up is (d, inr here, same) =
    serial_new (suc first) next cs up.1 (omega (arith, is)) (d, here, same)

-- a department that was found has a row
named_row : (name : List ℕ) (es : List (List ℕ × Department)) (d : Department)
    → AllByRecursion IsEntry es → find (slice_cmp nat_cmp) name es ≡ Some d
    → HasOne (λ r. r.name ≡ name) (map (λ e. department_row e.1) es)
named_row name [] d all e = absurd cc
named_row name (e ∷ es) d all found =
    go (eq_by_cmp (slice_cmp nat_cmp) name e.0) refl (λ later. named_row name es d all.1 later)
  where
    go : (b : Bool) → eq_by_cmp (slice_cmp nat_cmp) name e.0 ≡ b
        → (find (slice_cmp nat_cmp) name es ≡ Some d → HasOne (λ r. r.name ≡ name) (map (λ e. department_row e.1) es))
        → HasOne (λ r. r.name ≡ name) (map (λ e. department_row e.1) (e ∷ es))
    go true is rest =
        let same : name ≡ e.0 = (bytes_eq-Decides name e.0).0 (sym (is_eq-slice_cmp name e.0) ∙ is) in
        (department_row e.1, inl refl, sym (same ∙ all.0.1))
    go false is rest = let there = rest (rw is at found) in (there.0, inr there.1, there.2)

-- ---- a CA

-- its number and its key are new
pub ca_free : (n : ℕ) (cas : List Ca) (number : ℕ) (key : List ℕ) → n + length cas ≤ number → length key ≡ 32
    → AllByRecursion (λ ca. length ca.key ≡ 32) cas → is_ca cas key ≡ false
    → HasOne (λ d. (d.number ≡ number) ⊎ (d.ca ≡ key_blob key)) (ca_rows n cas) → ⊥
ca_free n [] number key high size sizes none (d, here, same) = here
ca_free n (c ∷ cas) number key high size sizes none (d, inl is, inl same) =
    let own : d.number ≡ n = ap (λ r. r.number) is in omega (arith, own, same, high)
ca_free n (c ∷ cas) number key high size sizes none (d, inl is, inr same) =
    let blob : key_blob c.key ≡ key_blob key = sym (ap (λ r. r.ca) is) ∙ same in
    let key_is : Some c.key ≡ Some key = sym (key_of_again c.key sizes.0) ∙ ap key_of blob ∙ key_of_again key size in
    let alike : c.key ≡ key = cc in
    let hit : bytes_eq c.key key ≡ true = (bytes_eq-Decides c.key key).1 alike in
    let wrong : true ≡ false = sym hit ∙ (or_parts (bytes_eq c.key key) (is_ca cas key) none).0 in cc
ca_free n (c ∷ cas) number key high size sizes none (d, inr here, same) =
    ca_free (suc n) cas number key (omega (arith, high)) size sizes.1
    (or_parts (bytes_eq c.key key) (is_ca cas key) none).1 (d, here, same)

-- ---- lists

no_longer : {X : Type 0} (xs ys : List X) (a : X) → length ys ≡ length xs → xs ++ a ∷ [] ≡ ys → ⊥
no_longer xs ys a same e = omega (arith, same, ap length e, length-append xs (a ∷ []))

-- ---- the message

-- the message, its new request ID, the fact that no refusal applies, and its effect
pub record IsStep (a : Arrival) (d : Decision) (p : Past) : Type 0 where
  pub message : Message
  pub text : message_with_text a.bytes ≡ Some message
  pub unused : list_any (has_key a) (kept_at p) ≡ false
  pub allowed : first_holding (refusals (state_at p) a.caller message a.moment) ≡ None
  pub made : written d (state_at p) ≡ after (state_at p) message a.moment a.nonce

pub step_of : (p : Past) (a : Arrival) (d : Decision) (serving : List Ca) → IsAccepted a d serving p → IsStep a d p
step_of p a d serving is =
    let found = ok_from_is_ok_and (judged (state_at p) (kept_at p) a) is.judged in
    let f = found.0 in
    let first = judged_is_first (state_at p) (kept_at p) a f found.1 in
    record {
      message = f.message;
      text = first.message;
      unused = first.new;
      allowed = first.allowed;
      made = found.2.2 ∙ ap (λ (x : Arrival). after (state_at p) f.message x.moment x.nonce) found.2.0;
    }

-- a department exists if it passes a test that `None` fails
is_there : (test : Option Department → Bool) → test None ≡ true → (o : Option Department) → test o ≡ false
    → (d : Department) × (o ≡ Some d)
is_there test none (Some d) e = (d, refl)
is_there test none None e = absurd (let wrong : true ≡ false = sym none ∙ e in cc)

-- a new certificate has the next serial, and its department exists
module _ (s : State) (lawful : IsLawful s) (caller : List ℕ) (moment : ℕ) (nonce : List ℕ) (cert : Certificate) where
  abbrev HasOwn : Type 0
  HasOwn = HasOne (λ r. r.name ≡ cert.department) (map (λ e. department_row e.1) s.departments)
      × (cert.fields.serial ≡ next_serial s)

  own : (made : Certificate) (d : Department) → s.certificates ++ cert ∷ [] ≡ s.certificates ++ made ∷ []
      → made.fields.serial ≡ next_serial s → department_named s made.department ≡ Some d → HasOwn
  own made d same serial found =
      let is = (same_from_push s.certificates s.certificates cert made same).1 in (
        subst (λ (c : Certificate). HasOne (λ r. r.name ≡ c.department) (map (λ e. department_row e.1) s.departments))
            (sym is) (named_row made.department s.departments d lawful.departments found),
        ap (λ (c : Certificate). c.fields.serial) is ∙ serial,
      )

  renewed_own : (r : Renewal) (o : Option Certificate) → certificate_of s r.serial ≡ o
      → is_one_that (λ c. not (is_renewal_permitted_to s.opening caller (department_of_serial s r.serial) c r)) o
      ≡ false
      → s.certificates ++ cert ∷ []
      ≡ (with_one_more s
      (option_map (λ c. renewed_certificate c r (next_serial s) (newest_key s.opening s.cas) nonce) o)).certificates
      → HasOwn
  renewed_own r None e permitted same = absurd (no_longer _ _ cert refl same)
  renewed_own r (Some old) e permitted same =
      let named : department_of_serial s r.serial ≡ department_named s old.department = rw e refl in
      let some = is_there (λ o. not (is_renewal_permitted_to s.opening caller o old r)) refl (department_named s old.department)
      (subst (λ o. not (is_renewal_permitted_to s.opening caller o old r) ≡ false) named permitted) in
      own (renewed_certificate old r (next_serial s) (newest_key s.opening s.cas) nonce) some.0 same refl some.1

  pub own_department : (m : Message) → first_holding (refusals s caller m moment) ≡ None
      → s.certificates ++ cert ∷ [] ≡ (after s m moment nonce).certificates → HasOwn
  own_department (message.Department d) allowed same = absurd (no_longer _ _ cert refl same)
  own_department (message.Issue i) allowed same =
      let tests = none_holds (refusals s caller (message.Issue i) moment) allowed in
      let some = is_there is_missing refl (department_named s i.department) tests.1.0 in
      own (issued s i nonce) some.0 same refl some.1
  own_department (message.Renew r) allowed same =
      let tests = none_holds (refusals s caller (message.Renew r) moment) allowed in
      renewed_own r (certificate_of s r.serial) refl tests.1.0 same
  own_department (message.Deliver d) allowed same =
      absurd (no_longer _ _ cert (length-signed_at s.certificates (d.serial - s.opening.first) d.signature) same)
  own_department _ allowed same =
      absurd (no_longer _ _ cert (of_either (λ t. length t.certificates ≡ length s.certificates) _ _ _ refl refl) same)

-- ---- a CA

-- a new CA is none of the existing ones
module _ (s : State) (caller : List ℕ) (moment : ℕ) (nonce : List ℕ) (ca : Ca) where
  abbrev IsNewCa : Type 0
  IsNewCa = (is_ca s.cas ca.key ≡ false) × (length ca.key ≡ 32)

  one_more_cas : (o : Option Certificate) → s.cas ++ ca ∷ [] ≡ (with_one_more s o).cas → IsNewCa
  one_more_cas (Some c) same = absurd (no_longer _ _ ca refl same)
  one_more_cas None same = absurd (no_longer _ _ ca refl same)

  pub new_ca : (m : Message) → is_message m ≡ true → first_holding (refusals s caller m moment) ≡ None
      → s.cas ++ ca ∷ [] ≡ (after s m moment nonce).cas → IsNewCa
  new_ca (message.Department d) is allowed same = absurd (no_longer _ _ ca refl same)
  new_ca (message.Issue i) is allowed same = absurd (no_longer _ _ ca refl same)
  new_ca (message.Renew r) is allowed same = one_more_cas (renewed s r nonce) same
  new_ca (message.Deliver d) is allowed same = absurd (no_longer _ _ ca refl same)
  new_ca (message.Rollover k) is allowed same =
      let tests = none_holds (refusals s caller (message.Rollover k) moment) allowed in
      let new = ca_from_now s k.key in
      let more : s.cas ++ ca ∷ [] ≡ s.cas ++ new ∷ [] =
      same ∙ of_either (λ t. t.cas ≡ s.cas ++ new ∷ []) (has_any s.revoked_key_ids) _ _ refl refl in
      let made = (same_from_push s.cas s.cas ca new more).1 in (
        subst (λ (c : Ca). is_ca s.cas c.key ≡ false) (sym made) tests.1.0,
        ap (λ (c : Ca). length c.key) made ∙ key_size k is,
      )
  new_ca _ is allowed same =
      absurd (no_longer _ _ ca (of_either (λ t. length t.cas ≡ length s.cas) _ _ _ refl refl) same)

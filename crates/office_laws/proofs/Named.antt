-- Exactly the serials and key IDs that accepted messages named are revoked.
use Rattle.office_laws.proofs.Words.{Arrival, Bool, Certificate, First, List, Message, None, Opening, Option, Some}
use Rattle.office_laws.proofs.Words.{State, [], after, after_all, ap, arith, bytes_eq, bytes_eq-Decides, cond, false}
use Rattle.office_laws.proofs.Words.{has_any, is_key_id_named, is_key_id_revoked, is_range_revoked, is_serial_named}
use Rattle.office_laws.proofs.Words.{leb, refl, state, sym, true, with_one_more, ℕ, ◌&&◌, ◌++◌, ◌+◌, ◌-◌, ◌||◌, ◌∙◌}
use Rattle.office_laws.proofs.Words.{◌∷◌, ◌≡◌}
use Rattle.std.proofs.Common.{eqb, Ordering, Less, Equal, Greater}
use Rattle.std.specs.List.{list_any}
use Rattle.std.specs.Ordering.{nat_cmp, is_eq}
use Rattle.std.specs.Cmp.Lexicographic.{slice_cmp}
use Rattle.std.specs.FinMap.Entries.{by_order}
use Rattle.std.proofs.lemmas.Bool.{eqb-true}
use Rattle.std.proofs.lemmas.List.Folds.{list_any-append}
use Rattle.std.proofs.lemmas.Map.Text.{is_eq-slice_cmp}
use Rattle.krl.proofs.Booleans.{ends, or_group}
use Rattle.message.specs.declared.kinds.Message.TheVariants as message
use Rattle.office.specs.Machine.{opened, renewed, put_text}
use Rattle.office.specs.History.{first_accepted}
use Rattle.office_laws.specs.Named.{revokes_serial, names_key_id}
use Rattle.office.proofs.Histories.{after_more}
use Rattle.office.proofs.Ranges.{has_all-each}
use Rattle.krl.proofs.Gathering.{within_one}

or_nothing : (b : Bool) → b ≡ (b || false)
or_nothing true = refl
or_nothing false = refl

or_swap : (a b : Bool) → (a || b) ≡ (b || a)
or_swap true false = refl
or_swap false true = refl
or_swap a b = refl

or_known : (a b : Bool) → (b ≡ true → a ≡ true) → a ≡ (a || b)
or_known false true known = known refl
or_known a b known = refl

or_twice : (a c : Bool) → (a || c) ≡ ((a || c) || a)
or_twice false true = refl
or_twice a c = refl

-- ---- one serial or key ID, and a message

module _ (get : State → Bool) (s : State) where
  -- a message that may name it, and changes the state unless everything that it names is revoked
  named : (b : Bool) (t : State) (names : Bool) → (b ≡ true → names ≡ true → get s ≡ true)
      → get t ≡ (get s || names) → get (cond b s t) ≡ (get s || names)
  named true t names known e = or_known (get s) names (known refl)
  named false t names known e = e

  -- a message that doesn't affect it
  unnamed : (b : Bool) (t u : State) → get t ≡ get s → get u ≡ get s → get (cond b t u) ≡ (get s || false)
  unnamed true t u p q = p ∙ or_nothing (get s)
  unnamed false t u p q = q ∙ or_nothing (get s)

  one_more : (c : Option Certificate) → ((c : Certificate) → get (with_one_more s (Some c)) ≡ get s)
      → get (with_one_more s c) ≡ (get s || false)
  one_more (Some c) same = same c ∙ or_nothing (get s)
  one_more None same = or_nothing (get s)

-- ---- serials

-- a message revokes the serials that it names
revoked_after : (n : ℕ) (s : State) (m : Message) (moment : ℕ) (nonce : List ℕ)
    → (after s m moment nonce).revoked n ≡ (s.revoked n || revokes_serial n m)
revoked_after n s (message.Renew r) moment nonce = one_more (λ t. t.revoked n) s (renewed s r nonce) (λ c. refl)
revoked_after n s (message.RevokeSerial serial) moment nonce =
    named (λ t. t.revoked n) s (s.revoked serial) _ (eqb n serial)
    (λ is same. ap s.revoked (eqb-true n serial same) ∙ is)
    (ap (λ b. b || s.revoked n) (within_one n serial) ∙ or_swap (eqb n serial) (s.revoked n))
revoked_after n s (message.RevokeRange r) moment nonce =
    named (λ t. t.revoked n) s (is_range_revoked s r) _ (leb r.lo n && leb n r.hi)
    (λ is within. let e = ends n r.lo r.hi within in
    has_all-each s.revoked r.lo ((r.hi + 1) - r.lo) n is e.0 (omega (arith, e.0, e.1)))
    (or_swap (leb r.lo n && leb n r.hi) (s.revoked n))
revoked_after n s (message.RevokeKeyId key_id) moment nonce =
    unnamed (λ t. t.revoked n) s (is_key_id_revoked s key_id) s _ refl refl
revoked_after n s (message.Rollover k) moment nonce =
    unnamed (λ t. t.revoked n) s (has_any s.revoked_key_ids) _ _ refl refl
revoked_after n s m moment nonce = or_nothing (s.revoked n)

-- ---- key IDs

abbrev pub has_key_id : List ℕ → List (List ℕ) → Bool
has_key_id k ids = list_any (λ i. bytes_eq i k) ids

same_text : (t u : List ℕ) → slice_cmp nat_cmp t u ≡ Equal → t ≡ u
same_text t u e = (bytes_eq-Decides t u).0 (sym (is_eq-slice_cmp t u) ∙ ap is_eq e)

-- the key IDs with one more
pub put_has : (t : List ℕ) (ids : List (List ℕ)) (k : List ℕ) → has_key_id k (put_text t ids) ≡ (has_key_id k ids || bytes_eq t k)
put_has t [] k = or_swap (bytes_eq t k) false
put_has t (u ∷ us) k = by_place (slice_cmp nat_cmp t u) refl (put_has t us k)
  where
    by_place : (o : Ordering) → slice_cmp nat_cmp t u ≡ o → has_key_id k (put_text t us) ≡ (has_key_id k us || bytes_eq t k)
        → has_key_id k (by_order o (t ∷ u ∷ us) (u ∷ us) (u ∷ put_text t us)) ≡ (has_key_id k (u ∷ us) || bytes_eq t k)
    by_place Less e later = or_swap (bytes_eq t k) (has_key_id k (u ∷ us))
    by_place Equal e later =
        or_twice (bytes_eq u k) (has_key_id k us) ∙ ap (λ (x : List ℕ). has_key_id k (u ∷ us) || bytes_eq x k) (sym (same_text t u e))
    by_place Greater e later = ap (λ b. bytes_eq u k || b) later ∙ sym (or_group (bytes_eq u k) (has_key_id k us) (bytes_eq t k))

-- a message revokes the key ID that it names
key_id_after : (k : List ℕ) (s : State) (m : Message) (moment : ℕ) (nonce : List ℕ)
    → is_key_id_revoked (after s m moment nonce) k ≡ (is_key_id_revoked s k || names_key_id k m)
key_id_after k s (message.Renew r) moment nonce =
    one_more (λ t. is_key_id_revoked t k) s (renewed s r nonce) (λ c. refl)
key_id_after k s (message.RevokeSerial serial) moment nonce =
    unnamed (λ t. is_key_id_revoked t k) s (s.revoked serial) s _ refl refl
key_id_after k s (message.RevokeRange r) moment nonce =
    unnamed (λ t. is_key_id_revoked t k) s (is_range_revoked s r) s _ refl refl
key_id_after k s (message.RevokeKeyId key_id) moment nonce =
    named (λ t. is_key_id_revoked t k) s (is_key_id_revoked s key_id) _ (bytes_eq key_id k)
    (λ is same. ap (is_key_id_revoked s) (sym ((bytes_eq-Decides key_id k).0 same)) ∙ is)
    (put_has key_id s.revoked_key_ids k)
key_id_after k s (message.Rollover key) moment nonce =
    unnamed (λ t. is_key_id_revoked t k) s (has_any s.revoked_key_ids) _ _ refl refl
key_id_after k s m moment nonce = or_nothing (is_key_id_revoked s k)

-- ---- histories

any_push : (test : First → Bool) (fs : List First) (f : First)
    → list_any test (fs ++ f ∷ []) ≡ (list_any test fs || test f)
any_push test fs f =
    list_any-append test fs (f ∷ []) ∙ ap (λ b. list_any test fs || b) (sym (or_nothing (test f)))

module _ (get : State → Bool) (names : Message → Bool) (each : (s : State) (m : Message) (moment : ℕ) (nonce : List ℕ)
    → get (after s m moment nonce) ≡ (get s || names m)) (o : Opening) where
  is_named : (l : List Arrival) → get (opened o) ≡ false
      → get (state o l) ≡ list_any (λ f. names f.message) (first_accepted o l)
  is_named l none = after_all (λ fs s. get s ≡ list_any (λ f. names f.message) fs)
      (λ fs s f is e. each s f.message f.arrival.moment f.arrival.nonce ∙ ap (λ b. b || names f.message) e
      ∙ sym (any_push (λ f. names f.message) fs f)) o l none

  stays : (l later : List Arrival) → get (state o l) ≡ true → get (state o (l ++ later)) ≡ true
  stays l later = after_more (λ fs s. get s ≡ true)
      (λ fs s f is e. each s f.message f.arrival.moment f.arrival.nonce ∙ ap (λ b. b || names f.message) e) o l later

pub serials_are_named : (o : Opening) (l : List Arrival) (n : ℕ) → (state o l).revoked n ≡ is_serial_named o l n
serials_are_named o l n = is_named (λ s. s.revoked n) (revokes_serial n) (revoked_after n) o l refl

pub key_ids_are_named : (o : Opening) (l : List Arrival) (k : List ℕ)
    → is_key_id_revoked (state o l) k ≡ is_key_id_named o l k
key_ids_are_named o l k = is_named (λ s. is_key_id_revoked s k) (names_key_id k) (key_id_after k) o l refl

pub serials_stay : (o : Opening) (l later : List Arrival) (n : ℕ) → (state o l).revoked n ≡ true
    → (state o (l ++ later)).revoked n ≡ true
serials_stay o l later n = stays (λ s. s.revoked n) (revokes_serial n) (revoked_after n) o l later

pub key_ids_stay : (o : Opening) (l later : List Arrival) (k : List ℕ) → is_key_id_revoked (state o l) k ≡ true
    → is_key_id_revoked (state o (l ++ later)) k ≡ true
key_ids_stay o l later k = stays (λ s. is_key_id_revoked s k) (names_key_id k) (key_id_after k) o l later

-- The signer of a serial is the CA under which the published list has it.
use Rattle.office_laws.proofs.Words.{AllByRecursion, Bool, Ca, List, Some, [], add-one, and_parts, ap, bytes_eq}
use Rattle.office_laws.proofs.Words.{bytes_eq-Decides, false, inl, inr, is_last_reached, key_at, le-leb, leb, list_all}
use Rattle.office_laws.proofs.Words.{lt-leb, ltb, map, refl, slice_get, subst, suc, sym, true, zero, ℕ, ◌&&◌, ◌∙◌, ◌∷◌}
use Rattle.office_laws.proofs.Words.{◌≡◌, ◌≢◌}
use Rattle.std.specs.Prelude.{slice_index, drop}
use Rattle.std.specs.List.{fold}
use Rattle.std.proofs.lemmas.Bool.{cases_Bool, cond_both, ltb-true, ltb-false}
use Rattle.office_laws.proofs.Shape.{AreDistinct}
use Rattle.krl.proofs.Publishing.{bytes_other}

-- each CA was added later
abbrev pub are_later : ℕ → List Ca → Bool
are_later n cas = list_all (λ since. ltb n since) (map (λ ca. ca.since) cas)

not_reached : (n since : ℕ) → ltb n since ≡ true → leb since n ≡ false
not_reached n since e = lt-leb since n (ltb-true n since e)

reached : (n since : ℕ) → ltb n since ≡ false → leb since n ≡ true
reached n since e = le-leb since n (ltb-false n since e)

-- CAs that were added later sign nothing
later_sign_nothing : (n : ℕ) (key : List ℕ) (cas : List Ca) → are_later n cas ≡ true → fold (key_at n) key cas ≡ key
later_sign_nothing n key [] e = refl
later_sign_nothing n key (ca ∷ cas) e =
    let parts = and_parts (ltb n ca.since) (are_later n cas) e in
    rw (not_reached n ca.since parts.0) (later_sign_nothing n key cas parts.1)

key_not : (x key : List ℕ) (ca : Ca) (n : ℕ) → key ≢ x → ca.key ≢ x → key_at n key ca ≢ x
key_not x key ca n p q = cond_both (leb ca.since n) ca.key key (λ k. k ≢ x) (λ _. q) (λ _. p)

-- a key that none of the CAs has isn't the signer's
others_sign : (n : ℕ) (x key : List ℕ) (cas : List Ca) → AllByRecursion (λ ca. ca.key ≢ x) cas → key ≢ x → fold (key_at n) key cas ≢ x
others_sign n x key [] all p = p
others_sign n x key (ca ∷ cas) all p = others_sign n x (key_at n key ca) cas all.1 (key_not x key ca n p all.0)

-- once one of these CAs had been added, a key that none of them has is not the signer's
one_signs : (n : ℕ) (x key : List ℕ) (cas : List Ca) → AllByRecursion (λ ca. ca.key ≢ x) cas → are_later n cas ≡ false → fold (key_at n) key cas ≢ x
one_signs n x key [] all e = absurd cc
one_signs n x key (ca ∷ cas) all e = elim (cases_Bool (ltb n ca.since)) [
  | inl is ↦ rw (not_reached n ca.since is) (one_signs n x key cas all.1 (rw is at e))
  | inr is ↦ rw (reached n ca.since is) (others_sign n x ca.key cas all.1 all.0)
]

-- the first CA, if it had been added by then, signs exactly when all others were added later
first_signs : (n : ℕ) (ca : Ca) (cas : List Ca) → AllByRecursion (λ c. c.key ≢ ca.key) cas → are_later n cas ≡ bytes_eq ca.key (fold (key_at n) ca.key cas)
first_signs n ca cas all = by_test (are_later n cas) refl
  where
    by_test : (b : Bool) → are_later n cas ≡ b → b ≡ bytes_eq ca.key (fold (key_at n) ca.key cas)
    by_test true is = sym ((bytes_eq-Decides ca.key _).1 (sym (later_sign_nothing n ca.key cas is)))
    by_test false is = sym (bytes_other ca.key _ (λ e. one_signs n ca.key ca.key cas all is (sym e)))

-- a key that none of the CAs has differs from each of theirs
other_there : (x : List ℕ) (cas : List Ca) (place : ℕ) (ca : Ca) → AllByRecursion (λ c. c.key ≢ x) cas → slice_get cas place ≡ Some ca → x ≢ ca.key
other_there x [] place ca all e = absurd cc
other_there x (c ∷ cas) zero ca all e =
    let same : c ≡ ca = cc in λ f. all.0 (ap (λ (y : Ca). y.key) same ∙ sym f)
other_there x (c ∷ cas) (suc place) ca all e = other_there x cas place ca all.1 e

pub last_behind : (first : ℕ) (since : List ℕ) (place n : ℕ) → is_last_reached (first ∷ since) (suc place) n ≡ is_last_reached since place n
last_behind first since place n =
    ap (λ k. leb (slice_index since place) n && list_all (λ later. ltb n later) (drop k (first ∷ since))) (add-one (suc place))
    ∙ ap (λ k. leb (slice_index since place) n && list_all (λ later. ltb n later) (drop k since)) (sym (add-one place))

-- a CA at a place among distinct ones, if the key so far is a different one
place_signs : (n : ℕ) (key : List ℕ) (cas : List Ca) (place : ℕ) (ca : Ca) → AreDistinct cas → slice_get cas place ≡ Some ca → key ≢ ca.key
    → is_last_reached (map (λ c. c.since) cas) place n ≡ bytes_eq ca.key (fold (key_at n) key cas)
place_signs n key [] place ca d e p = absurd cc
place_signs n key (c ∷ cas) zero ca d e p =
    let same : c ≡ ca = cc in
    subst (λ (x : Ca). (leb c.since n && are_later n cas) ≡ bytes_eq x.key (fold (key_at n) key (c ∷ cas))) same
    (elim (cases_Bool (leb c.since n)) [
      | inl is ↦ rw is (first_signs n c cas d.0)
      | inr is ↦
          let apart : key ≢ c.key = rw same p in
          rw is (sym (bytes_other c.key _ (λ e. others_sign n c.key key cas d.0 apart (sym e))))
    ])
place_signs n key (c ∷ cas) (suc place) ca d e p =
    last_behind c.since (map (λ x. x.since) cas) place n ∙ place_signs n (key_at n key c) cas place ca d.1 e (key_not ca.key key c n p (other_there c.key cas place ca d.0 e))

-- a CA at a place among distinct ones, if the first had been added by then
pub served_signs : (n : ℕ) (key : List ℕ) (first : Ca) (cas : List Ca) (place : ℕ) (ca : Ca) → leb first.since n ≡ true → AreDistinct (first ∷ cas) → slice_get (first ∷ cas) place ≡ Some ca
    → is_last_reached (map (λ c. c.since) (first ∷ cas)) place n ≡ bytes_eq ca.key (fold (key_at n) key (first ∷ cas))
served_signs n key first cas zero ca came d e =
    let same : first ≡ ca = cc in
    subst (λ (x : Ca). (leb first.since n && are_later n cas) ≡ bytes_eq x.key (fold (key_at n) key (first ∷ cas))) same (rw came (first_signs n first cas d.0))
served_signs n key first cas (suc place) ca came d e =
    let apart : key_at n key first ≢ ca.key = rw came (other_there first.key cas place ca d.0 e) in
    last_behind first.since (map (λ x. x.since) cas) place n ∙ place_signs n (key_at n key first) cas place ca d.1 e apart

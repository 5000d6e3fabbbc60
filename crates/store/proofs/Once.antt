-- Inserting a key ID at most once.
use Rattle.store.proofs.Words.{Equal, Greater, HasOne, IsAscending, IsPermutation, IsPermutation-refl, Less, List}
use Rattle.store.proofs.Words.{Ordering, [], ap, both_ways, bytes_eq, bytes_eq-Decides, false, is_same_key_id, list_any}
use Rattle.store.proofs.Words.{nat_cmp, nat_list_cmp_total, nat_list_eq_equiv, or_parts, put_text, refl, slice_cmp}
use Rattle.store.proofs.Words.{some_from, true, ℕ, ◌∙◌, ◌∷◌, ◌≡◌}
use Rattle.std.proofs.lemmas.Bool.{or_from}
use Rattle.sqlite_keyed.proofs.ListLemmas.{all_weaker, any_from_none}
use Rattle.store.proofs.Spans.{moved}
use Rattle.store.proofs.PutInPlace.{tied}

-- a missing one is added
pub absent : (t : List ℕ) (us : List (List ℕ)) → list_any (is_same_key_id t) us ≡ false
    → IsPermutation (t ∷ us) (put_text t us)
absent t [] none = IsPermutation-refl _
absent t (u ∷ us) none =
    let two = or_parts (bytes_eq u t) (list_any (is_same_key_id t) us) none in
    by_case two.0 (absent t us two.1) (slice_cmp nat_cmp t u) refl
  where
    by_case : bytes_eq u t ≡ false → IsPermutation (t ∷ us) (put_text t us) → (o : Ordering) → slice_cmp nat_cmp t u ≡ o
        → IsPermutation (t ∷ u ∷ us) (put_text t (u ∷ us))
    by_case other rest Less is = rw is (IsPermutation-refl _)
    by_case other rest Equal is =
        absurd (both_ways (bytes_eq u t) other (nat_list_eq_equiv.symm u t ∙ tied t u Equal is))
    by_case other rest Greater is = rw is (moved t u us (put_text t us) rest)

-- an existing one changes nothing
pub present : (t : List ℕ) (us : List (List ℕ)) → IsAscending (λ a b. slice_cmp nat_cmp a b ≡ Less) us
    → list_any (is_same_key_id t) us ≡ true → put_text t us ≡ us
present t [] up some = absurd cc
present t (u ∷ us) up some = by_case (present t us up.1) (slice_cmp nat_cmp t u) refl
  where
    by_case : (list_any (is_same_key_id t) us ≡ true → put_text t us ≡ us) → (o : Ordering) → slice_cmp nat_cmp t u ≡ o
        → put_text t (u ∷ us) ≡ u ∷ us
    by_case rest Less is =
        let other : (v : List ℕ) → slice_cmp nat_cmp t v ≡ Less → bytes_eq v t ≡ false =
        λ v less. nat_list_eq_equiv.symm v t ∙ tied t v Less less in
        absurd (both_ways (list_any (is_same_key_id t) (u ∷ us)) (or_from (bytes_eq u t) _ (other u is)
        (any_from_none (is_same_key_id t) us (all_weaker (λ v. slice_cmp nat_cmp u v ≡ Less) (λ v. bytes_eq v t ≡ false)
        (λ v less. other v (nat_list_cmp_total.trans t u v is less)) us up.0))) some)
    by_case rest Equal is = rw is refl
    by_case rest Greater is =
        let other : bytes_eq u t ≡ false = nat_list_eq_equiv.symm u t ∙ tied t u Greater is in
        rw is (ap (λ (ks : List (List ℕ)). u ∷ ks) (rest (rw other at some)))

-- a missing one isn't one of these
pub not_there : (t : List ℕ) (us : List (List ℕ)) → list_any (is_same_key_id t) us ≡ false → HasOne (λ k. k ≡ t) us → ⊥
not_there t us none one =
    both_ways (list_any (is_same_key_id t) us) none
    (some_from (is_same_key_id t) us one.0 one.1 ((bytes_eq-Decides one.0 t).1 one.2))

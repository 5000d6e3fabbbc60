-- Key IDs put in their places.
use Rattle.memory_store.proofs.Words.{Bool, Equal, Greater, Less, List, Ordering, [], ap, bytes_eq, cond, false, insert}
use Rattle.memory_store.proofs.Words.{is_at, is_gt, length, nat_cmp, nat_list_eq_equiv, place_among, refl, slice_cmp}
use Rattle.memory_store.proofs.Words.{slice_get, suc, take_while, take_while-cons, true, ℕ, ◌∙◌, ◌∷◌, ◌≡◌}
use Rattle.office.specs.Machine.{put_text}
use Rattle.memory_store.specs.KeyIds.{comes_after}
use Rattle.memory_store.proofs.Places.{tie_is}

place-cons : (u : List ℕ) (us : List (List ℕ)) (t : List ℕ) → place_among (u ∷ us) t ≡ cond (comes_after t u) (suc (place_among us t)) 0
place-cons u us t =
    ap length (take_while-cons (λ other. comes_after t other) u us)
    ∙ elim (comes_after t u) as (λ b. length (cond b (u ∷ take_while (λ other. comes_after t other) us) []) ≡ cond b (suc (place_among us t)) 0) [ true ↦ refl | false ↦ refl ]

zero_where : (t u : List ℕ) (us : List (List ℕ)) (o : Ordering) → slice_cmp nat_cmp t u ≡ o → is_gt o ≡ false → place_among (u ∷ us) t ≡ 0
zero_where t u us o e first = place-cons u us t ∙ ap (λ (x : Ordering). cond (is_gt x) (suc (place_among us t)) 0) e ∙ ap (λ (b : Bool). cond b (suc (place_among us t)) 0) first

later_where : (t u : List ℕ) (us : List (List ℕ)) → slice_cmp nat_cmp t u ≡ Greater → place_among (u ∷ us) t ≡ suc (place_among us t)
later_where t u us e = place-cons u us t ∙ ap (λ (x : Ordering). cond (is_gt x) (suc (place_among us t)) 0) e

-- if it is at its place already, nothing changes
pub put_again : (t : List ℕ) (ts : List (List ℕ)) → is_at (slice_get ts (place_among ts t)) t ≡ true → put_text t ts ≡ ts
put_again t [] is = absurd cc
put_again t (u ∷ us) is = by_case (slice_cmp nat_cmp t u) (put_again t us) refl
  where
    by_case : (o : Ordering) → (is_at (slice_get us (place_among us t)) t ≡ true → put_text t us ≡ us) → slice_cmp nat_cmp t u ≡ o → put_text t (u ∷ us) ≡ u ∷ us
    by_case Less rest e =
        let tied : bytes_eq t u ≡ true = nat_list_eq_equiv.symm t u ∙ (rw (zero_where t u us Less e refl) at is) in
        let apart : bytes_eq t u ≡ false = tie_is t u Less e in
        absurd cc
    by_case Equal rest e = rw e refl
    by_case Greater rest e = rw e (ap (λ (ks : List (List ℕ)). u ∷ ks) (rest (rw (later_where t u us e) at is)))

-- if it isn't, it is inserted there
pub put_new : (t : List ℕ) (ts : List (List ℕ)) → is_at (slice_get ts (place_among ts t)) t ≡ false → insert ts (place_among ts t) t ≡ put_text t ts
put_new t [] is = refl
put_new t (u ∷ us) is = by_case (slice_cmp nat_cmp t u) (put_new t us) refl
  where
    by_case : (o : Ordering) → (is_at (slice_get us (place_among us t)) t ≡ false → insert us (place_among us t) t ≡ put_text t us) → slice_cmp nat_cmp t u ≡ o
        → insert (u ∷ us) (place_among (u ∷ us) t) t ≡ put_text t (u ∷ us)
    by_case Less rest e = rw (zero_where t u us Less e refl, e) refl
    by_case Equal rest e =
        let tied : bytes_eq u t ≡ true = nat_list_eq_equiv.symm u t ∙ tie_is t u Equal e in
        let apart : bytes_eq u t ≡ false = rw (zero_where t u us Equal e refl) at is in
        absurd cc
    by_case Greater rest e = rw (later_where t u us e, e) (ap (λ (ks : List (List ℕ)). u ∷ ks) (rest (rw (later_where t u us e) at is)))

-- Lines of pairs, read one after another.
use Rattle.message.proofs.Words.{Bool, List, None, Option, Pair, Some, [], ap, arith, false, length, length-append}
use Rattle.message.proofs.Words.{line_of, refl, suc, sym, true, zero, ℕ, ◌&&◌, ◌++◌, ◌+◌, ◌-◌, ◌<◌, ◌∙◌, ◌∷◌, ◌≡◌, ◌≤◌}
use Rattle.message.specs.Reading.{pairs_from}

module _ (after : List Pair → List ℕ → Option Pair) where
  -- one more pair
  pub one_pair : (left n : ℕ) (before : List Pair) (ps : List (List ℕ)) (p : Pair) → 0 < left
      → after before (line_of n ps) ≡ Some p
      → pairs_from after left n before ps ≡ pairs_from after (left - 1) (n + 1) (before ++ p ∷ []) ps
  unfolding pairs_from
  one_pair zero n before ps p some is = absurd (omega arith)
  one_pair (suc k) n before ps p some is =
      let less : suc k - 1 ≡ k = omega arith in
      let next : n + 1 ≡ suc n = omega arith in
      taken k n before ps p (after before (line_of n ps)) is ∙ rw (less, next) refl
    where
      taken : (k n : ℕ) (before : List Pair) (ps : List (List ℕ)) (p : Pair) (o : Option Pair) → o ≡ Some p
          → (elim o as (λ _. List Pair) [ None ↦ before | Some p ↦ pairs_from after k (suc n) (before ++ p ∷ []) ps ])
          ≡ pairs_from after k (suc n) (before ++ p ∷ []) ps
      taken k n before ps p None e = absurd cc
      taken k n before ps p (Some q) e = ap (λ (x : Pair). pairs_from after k (suc n) (before ++ x ∷ []) ps) cc

  -- no more pair
  pub no_pair : (left n : ℕ) (before : List Pair) (ps : List (List ℕ)) → after before (line_of n ps) ≡ None
      → pairs_from after left n before ps ≡ before
  unfolding pairs_from
  no_pair zero n before ps none = refl
  no_pair (suc k) n before ps none = stopped (after before (line_of n ps)) none
    where
      stopped : (o : Option Pair) → o ≡ None
          → (elim o as (λ _. List Pair) [ None ↦ before | Some p ↦ pairs_from after k (suc n) (before ++ p ∷ []) ps ])
          ≡ before
      stopped None e = refl
      stopped (Some q) e = absurd cc

  few : (most n : ℕ) (before : List Pair) (ps : List (List ℕ)) (rest : Pair → List Pair) (o : Option Pair)
      → ((p : Pair) → length (rest p) ≤ most + length (before ++ p ∷ []))
      → length (elim o as (λ _. List Pair) [ None ↦ before | Some p ↦ rest p ]) ≤ suc most + length before
  few most n before ps rest None each = omega arith
  few most n before ps rest (Some p) each = omega (arith, each p, length-append before (p ∷ []))

  -- at most as many more pairs as lines are left
  pub few_pairs : (left n : ℕ) (before : List Pair) (ps : List (List ℕ))
      → length (pairs_from after left n before ps) ≤ left + length before
  unfolding pairs_from
  few_pairs zero n before ps = omega arith
  few_pairs (suc k) n before ps =
      few k n before ps (λ p. pairs_from after k (suc n) (before ++ p ∷ []) ps) (after before (line_of n ps))
      (λ p. few_pairs k (suc n) (before ++ p ∷ []) ps)

  -- the pairs read so far are all, if the rest is read as from the first line on and gives none
  pub are_pairs : (left first n : ℕ) (before : List Pair) (ps : List (List ℕ))
      → pairs_from after left n before ps ≡ pairs_from after 3 first [] ps → pairs_from after left n before ps ≡ before
      → (before ≡ pairs_from after 3 first [] ps) × (length before ≤ 3)
  are_pairs left first n before ps so_far no_more =
      let same : before ≡ pairs_from after 3 first [] ps = sym no_more ∙ so_far in
      (same, omega (arith, ap (λ (os : List Pair). length os) same, few_pairs 3 first [] ps))

  -- no lines are left
  pub all_pairs : (left n : ℕ) (before : List Pair) (ps : List (List ℕ)) → left ≡ 0
      → pairs_from after left n before ps ≡ before
  unfolding pairs_from
  all_pairs left n before ps none = rw none refl

-- the second of two tests, if the first is true
pub and_second : (a b c : Bool) → a ≡ true → c ≡ b → c ≡ (a && b)
and_second true b c is e = e
and_second false b c is e = absurd cc

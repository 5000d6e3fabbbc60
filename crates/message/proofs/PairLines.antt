-- Lines of pairs, each of which may follow the earlier ones, and then the rest of a message.
use Rattle.message.proofs.Words.{Bool, List, None, Option, Pair, Result, Some, [], ap, append-nil, append_assoc, arith}
use Rattle.message.proofs.Words.{drop, drop-append_seam, inl, inr, length, length-append, map, subst, suc, sym, true, zero}
use Rattle.message.proofs.Words.{ℕ, ◌++◌, ◌+◌, ◌∙◌, ◌∷◌, ◌≡◌, ◌≤◌, ◌⊎◌}
use Rattle.std.proofs.Math.Seq.{drop-length}
use Rattle.message.specs.Reading.{pairs_from}
use Rattle.message.proofs.Readings.{IsField, IsReading, same_messages}
use Rattle.message.proofs.Choices.{line_or}

-- each pair may follow the earlier ones
abbrev pub AreNew : (List Pair → Pair → Bool) → List Pair → List Pair → Type 0
AreNew is_new before [] = Unit {0}
AreNew is_new before (p ∷ ps) = (is_new before p ≡ true) × AreNew is_new (before ++ p ∷ []) ps

module _ {M : Type 0} (start : ℕ) (read : List Pair → List ℕ → Option Pair) (text : Pair → List ℕ)
    (is_new : List Pair → Pair → Bool) (get : M → List Pair) (tail : List Pair → List (List ℕ) → Result M ℕ)
    (IsStop : List Pair → M → Type 0) (last_lines : M → List (List ℕ))
    (field : (before : List Pair) → IsField (read before) text (λ p. is_new before p ≡ true))
    (stop_reads : (k : ℕ) (pairs : List Pair) → k ≡ start + length pairs
    → IsReading k (tail pairs) (IsStop pairs) last_lines)
    (gets : (pairs : List Pair) (m : M) → IsStop pairs m → get m ≡ pairs)
    (stops : (pairs : List Pair) (m : M) → IsStop pairs m
    → (l : List ℕ) × (ls : List (List ℕ)) × (last_lines m ≡ l ∷ ls) × (read pairs l ≡ None)) where
  -- A message whose pairs are these, followed by at most `most` more.
  abbrev pub IsAfter : ℕ → List Pair → M → Type 0
  IsAfter most pairs m =
      (more : List Pair) × (get m ≡ pairs ++ more) × (length more ≤ most) × AreNew is_new pairs more × IsStop (get m) m

  abbrev pub lines_after : List Pair → M → List (List ℕ)
  lines_after pairs m = map text (drop (length pairs) (get m)) ++ last_lines m

  stop_is : (most : ℕ) (pairs : List Pair) (m : M) → IsStop pairs m → IsAfter most pairs m
      × (lines_after pairs m ≡ last_lines m)
  stop_is most pairs m is =
      let same : get m ≡ pairs = gets pairs m is in (
        ([], same ∙ sym (append-nil pairs), omega arith, tt, subst (λ (o : List Pair). IsStop o m) (sym same) is),
        ap (λ (o : List Pair). map text o ++ last_lines m) (ap (drop (length pairs)) same ∙ drop-length pairs),
      )

  stop_found : (pairs : List Pair) (m : M) → get m ≡ pairs ++ [] → IsStop (get m) m → IsStop pairs m
  stop_found pairs m same is = subst (λ (o : List Pair). IsStop o m) (same ∙ append-nil pairs) is

  more_is : (most : ℕ) (pairs : List Pair) (p : Pair) (m : M) → is_new pairs p ≡ true
      → IsAfter most (pairs ++ p ∷ []) m
      → IsAfter (suc most) pairs m × (lines_after pairs m ≡ text p ∷ lines_after (pairs ++ p ∷ []) m)
  more_is most pairs p m new is =
      let more = is.0 in
      let all : get m ≡ pairs ++ p ∷ more = is.1 ∙ append_assoc pairs (p ∷ []) more in
      let left : drop (length pairs) (get m) ≡ p ∷ more =
      ap (drop (length pairs)) all ∙ drop-append_seam pairs (p ∷ more) in
      let rest : drop (length (pairs ++ p ∷ [])) (get m) ≡ more =
      ap (drop (length (pairs ++ p ∷ []))) is.1 ∙ drop-append_seam (pairs ++ p ∷ []) more in (
        (p ∷ more, all, omega (arith, is.2), (new, is.3), is.4),
        ap (λ (o : List Pair). map text o ++ last_lines m) left
            ∙ ap (λ (o : List Pair). text p ∷ (map text o ++ last_lines m)) (sym rest),
      )

  cases : (most : ℕ) (pairs : List Pair) (m : M) → IsAfter (suc most) pairs m
      → IsStop pairs m ⊎ ((p : Pair) × (is_new pairs p ≡ true) × IsAfter most (pairs ++ p ∷ []) m)
  cases most pairs m ([], same, few, new, stop) = inl (stop_found pairs m same stop)
  cases most pairs m (p ∷ more, same, few, new, stop) =
      inr (p, new.0, (more, same ∙ sym (append_assoc pairs (p ∷ []) more), omega arith, new.1, stop))

  none_left : (pairs : List Pair) (m : M) → IsAfter 0 pairs m → IsStop pairs m
  none_left pairs m ([], same, few, new, stop) = stop_found pairs m same stop
  none_left pairs m (p ∷ more, same, few, new, stop) = absurd (omega arith)

  pub pairs_read : (most k : ℕ) (pairs : List Pair) → k ≡ start + length pairs
      → IsReading k (λ ps. tail (pairs_from read most (suc k) pairs ps) ps) (IsAfter most pairs) (lines_after pairs)
  unfolding pairs_from
  pairs_read zero k pairs e =
      same_messages k (tail pairs) (IsStop pairs) (IsAfter 0 pairs) last_lines (lines_after pairs)
      (stop_is 0 pairs) (none_left pairs) (stop_reads k pairs e)
  pairs_read (suc most) k pairs e =
      line_or k (read pairs) text (λ p. is_new pairs p ≡ true)
      (λ o ps. tail (elim o as (λ _. List Pair)
      [ None ↦ pairs | Some p ↦ pairs_from read most (suc (suc k)) (pairs ++ p ∷ []) ps ]) ps)
      (IsStop pairs) (λ p. IsAfter most (pairs ++ p ∷ [])) last_lines (λ p. lines_after (pairs ++ p ∷ []))
      (IsAfter (suc most) pairs) (lines_after pairs) (field pairs) (stop_reads k pairs e)
      (λ p new. pairs_read most (suc k) (pairs ++ p ∷ []) (longer pairs p k e))
      (stop_is (suc most) pairs) (λ p m new is. more_is most pairs p m new is) (cases most pairs) (stops pairs)
    where
      longer : (pairs : List Pair) (p : Pair) (k : ℕ) → k ≡ start + length pairs → suc k ≡ start + length (pairs ++ p ∷ [])
      longer pairs p k e = omega (arith, length-append pairs (p ∷ []))

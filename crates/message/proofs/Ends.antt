-- The end after the last line.
use Rattle.message.proofs.Words.{Bool, Err, List, Ok, Option, Result, [], and_parts, ap, arith, cond, drop, ends_after}
use Rattle.message.proofs.Words.{eq-eqb, eqb, eqb-true, false, length, length-drop, list_any, refl, suc, sym, true, ℕ}
use Rattle.message.proofs.Words.{◌+◌, ◌-◌, ◌<◌, ◌∙◌, ◌∷◌, ◌≡◌}
use Rattle.std.proofs.Math.Bool.{or-false}
use Rattle.message.specs.Reading.{one_line_in}
use Rattle.message.proofs.Lines.{shares_none}
use Rattle.message.proofs.Readings.{IsField, FirstFault, IsReading, error_at, same_values}
use Rattle.message.proofs.Choices.{line_then}

-- a list of length 1 with an empty text
one_empty : (ls : List (List ℕ)) → length ls ≡ 1 → list_any (λ p. eqb (length p) 0) ls ≡ true → ls ≡ [] ∷ []
one_empty [] n e = absurd (omega (arith, n))
one_empty ([] ∷ []) n e = refl
one_empty ((b ∷ bs) ∷ []) n e = absurd (omega (arith, eqb-true _ 0 (sym (or-false (eqb (length (b ∷ bs)) 0)) ∙ e)))
one_empty (l ∷ m ∷ ls) n e = absurd (omega (arith, n))

-- after the last line, one piece is left, and it is empty
is_ended_after : (n : ℕ) (ps : List (List ℕ)) → ends_after n ps ≡ true → drop n ps ≡ [] ∷ []
is_ended_after n ps e =
    let both = and_parts _ _ e in
    let count : length ps ≡ n + 1 = eqb-true _ _ both.0 in
    let left : length (drop n ps) ≡ 1 = rw (length-drop n ps) (omega arith) in
    one_empty (drop n ps) left both.1

-- if one empty piece is left, the text ends there
ends_there : (n : ℕ) (ps : List (List ℕ)) → drop n ps ≡ [] ∷ [] → ends_after n ps ≡ true
ends_there n ps e =
    let count : length ps - n ≡ 1 = sym (length-drop n ps) ∙ ap length e in
    let all : eqb (length ps) (n + 1) ≡ true = eq-eqb _ _ (omega arith) in
    rw (all, e) refl

module _ {M : Type 0} (k : ℕ) (whole : M) where
  abbrev end : List (List ℕ) → Bool → Result M ℕ
  end ps ends = cond ends (Ok whole) (Err (suc k))

  end_found : (ps : List (List ℕ)) (m : M) (ends : Bool) → ends_after k ps ≡ ends → end ps ends ≡ Ok m → (m ≡ whole)
      × (drop k ps ≡ [] ∷ [])
  end_found ps m true is e = (cc, is_ended_after k ps is)
  end_found ps m false is e = absurd cc

  end_fault : (ps : List (List ℕ)) (i : ℕ) (ends : Bool) → k < length ps → end ps ends ≡ Err i
      → FirstFault k (λ m. m ≡ whole) (λ _. []) ps i
  end_fault ps i true inside e = absurd cc
  end_fault ps i false inside e =
      let from : 0 < length (drop k ps) = rw (length-drop k ps) (omega arith) in record {
        count = 0;
        at = error_at k i e;
        some = (whole, refl, shares_none (drop k ps) ([] ∷ []) from (omega arith));
        none = λ m is shared. absurd (omega (arith, shared.1));
      }

  -- reading the end after the last line
  pub then_end : IsReading k (λ ps. cond (ends_after k ps) (Ok whole) (Err (suc k))) (λ m. m ≡ whole) (λ _. [])
  then_end = record {
    some = (whole, refl);
    found = λ ps m fits e. end_found ps m (ends_after k ps) refl e;
    again = λ ps m is e. ap (end ps) (ends_there k ps e) ∙ ap (λ (x : M). Ok x) (sym is);
    fault = λ ps i fits inside e. end_fault ps i (ends_after k ps) inside e;
    are_lines = λ m is. tt;
  }

-- ---- a single line

module _ {X : Type 0} (read : List ℕ → Option X) (text : X → List ℕ) (IsLawful : X → Type 0)
    (field : IsField read text IsLawful) (some : X) (some_is : IsLawful some) where
  first_alone : IsReading 0 (one_line_in read) (λ x. IsLawful x × (x ≡ x)) (λ x. text x ∷ [])
  unfolding one_line_in
  first_alone = line_then 0 read text IsLawful (λ x. x) _ (λ x y. y ≡ x) (λ _. []) field some some_is
      (λ x _. then_end 1 x) (λ x y e. e)

  -- reading a message of a single line
  pub one_line : IsReading 0 (one_line_in read) IsLawful (λ x. text x ∷ [])
  one_line = same_values first_alone (λ x is. is.0) (λ x is. (is, refl))

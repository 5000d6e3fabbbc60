-- Lines among the pieces of a text, and the number of lines that two texts share.
use Rattle.message.proofs.Words.{Bool, List, [], ap, arith, cond, cond-true, drop, false, get_or, inl, inr, length}
use Rattle.message.proofs.Words.{length-append, length-drop, line_of, ltb, refl, subst, suc, sym, take, true, ℕ, ◌++◌}
use Rattle.message.proofs.Words.{◌-◌, ◌<◌, ◌∙◌, ◌∷◌, ◌≡◌, ◌⊎◌}
use Rattle.std.proofs.Common.{drop-cons}
use Rattle.std.proofs.lemmas.Bool.{ltb-true, lt-ltb}

-- the value of a choice, depending on its test
pub chosen : {A : Type 0} (b : Bool) (x y z : A) → cond b x y ≡ z → ((b ≡ true) × (x ≡ z)) ⊎ ((b ≡ false) × (y ≡ z))
chosen true x y z e = inl (refl, e)
chosen false x y z e = inr (refl, e)

-- the line after k lines, if it is terminated, comes first among the pieces from there on
pub line_there : (k : ℕ) (ps : List (List ℕ)) → suc k < length ps → drop k ps ≡ line_of (suc k) ps ∷ drop (suc k) ps
line_there k ps h =
    let is_there : ltb (suc k) (length ps) ≡ true = lt-ltb _ _ h in
    let at : suc k - 1 ≡ k = omega arith in
    let is : line_of (suc k) ps ≡ get_or ps k [] =
    cond-true _ (get_or ps (suc k - 1) []) [] is_there ∙ ap (λ (i : ℕ). get_or ps i []) at in
    let below : k < length ps = omega arith in
    drop-cons ps k [] below ∙ ap (λ (l : List ℕ). l ∷ drop (suc k) ps) (sym is)

-- a line that isn't empty is terminated
pub line_is_ended : (k : ℕ) (ps : List (List ℕ)) → (line_of (suc k) ps ≡ [] → ⊥) → suc k < length ps
line_is_ended k ps some =
    elim (chosen (ltb (suc k) (length ps)) (get_or ps (suc k - 1) []) [] (line_of (suc k) ps) refl) [
      | inl there ↦ ltb-true _ _ there.0
      | inr none ↦ absurd (some (sym none.1))
    ]

-- lines, followed by the last piece of their text, which is empty
abbrev pub ended : List (List ℕ) → List (List ℕ)
ended ls = ls ++ [] ∷ []

pub more_than_none : (ls : List (List ℕ)) → 0 < length (ended ls)
more_than_none ls = rw (length-append ls ([] ∷ [])) (omega arith)

-- pieces that are lines and then the end start with the first line, followed by the other lines and the end
pub line_is : (k : ℕ) (ps : List (List ℕ)) (l : List ℕ) (ls lines : List (List ℕ)) → lines ≡ l ∷ ls
    → drop k ps ≡ ended lines → (line_of (suc k) ps ≡ l) × (drop (suc k) ps ≡ ended ls)
line_is k ps l ls lines is e =
    let whole : drop k ps ≡ l ∷ ended ls = e ∙ ap ended is in
    let some = more_than_none ls in
    let count : length ps - k ≡ suc (length (ended ls)) = sym (length-drop k ps) ∙ ap length whole in
    let both : line_of (suc k) ps ∷ drop (suc k) ps ≡ l ∷ ended ls = sym (line_there k ps (omega arith)) ∙ whole in
    (cc, cc)

-- the first j lines of two texts exist, each terminated, and are the same
abbrev pub Shares : ℕ → List (List ℕ) → List (List ℕ) → Type 0
Shares j xs ys = (j < length xs) × (j < length ys) × (take j xs ≡ take j ys)

-- all texts share zero lines
pub shares_none : (xs ys : List (List ℕ)) → 0 < length xs → 0 < length ys → Shares 0 xs ys
shares_none xs ys some one = (some, one, refl)

-- one more line in front
pub shares_more : (k j : ℕ) (ps : List (List ℕ)) (l : List ℕ) (ls lines : List (List ℕ)) → lines ≡ l ∷ ls
    → drop k ps ≡ l ∷ drop (suc k) ps → Shares j (drop (suc k) ps) (ended ls) → Shares (suc j) (drop k ps) (ended lines)
shares_more k j ps l ls lines is there s =
    let both : Shares (suc j) (l ∷ drop (suc k) ps) (l ∷ ended ls) =
    (omega (arith, s.0), omega (arith, s.1), ap (λ (xs : List (List ℕ)). l ∷ xs) s.2) in
    subst (λ (xs : List (List ℕ)). Shares (suc j) xs (ended lines)) (sym there)
    (subst (λ (xs : List (List ℕ)). Shares (suc j) (l ∷ drop (suc k) ps) (ended xs)) (sym is) both)

-- one line fewer in front
pub shares_less : (k j : ℕ) (ps : List (List ℕ)) (l : List ℕ) (ls lines : List (List ℕ)) → lines ≡ l ∷ ls
    → Shares (suc j) (drop k ps) (ended lines) → (line_of (suc k) ps ≡ l) × Shares j (drop (suc k) ps) (ended ls)
shares_less k j ps l ls lines is shared =
    let count : length (drop k ps) ≡ length ps - k = length-drop k ps in
    let there : suc k < length ps = omega (arith, shared.0) in
    let s : Shares (suc j) (line_of (suc k) ps ∷ drop (suc k) ps) (l ∷ ended ls) =
    subst (λ (xs : List (List ℕ)). Shares (suc j) xs (l ∷ ended ls)) (line_there k ps there)
    (subst (λ (xs : List (List ℕ)). Shares (suc j) (drop k ps) (ended xs)) is shared) in
    let both : line_of (suc k) ps ∷ take j (drop (suc k) ps) ≡ l ∷ take j (ended ls) = s.2 in
    (cc, (omega (arith, s.0), omega (arith, s.1), cc))

-- Texts that lack a byte, and splitting at it.
use Rattle.std.proofs.Common.{◌≡◌, ◌<◌, ◌+◌, ◌^◌, ℕ, List, [], ◌∷◌, ◌++◌, length, take, drop, Bool, true}
use Rattle.std.proofs.Common.{false, ◌==◌, decimal, All, arith, ap, sym, ◌∙◌, refl, length-append, length-drop}
use Rattle.std.specs.Char.{is_ascii_digit}
use Rattle.std.specs.List.{list_all, before_first, after_first, position_or_len}
use Rattle.std.specs.List.{slice_split, join_with_byte, AllByRecursion}
use Rattle.std.proofs.Math.ListN.{get_or-append}
use Rattle.std.proofs.Math.Seq.{get_or-append_seam, take-append_seam, drop-append-add}
use Rattle.std.proofs.lemmas.Bool.{both_ways, eq-eqb, eqb-true, ne_eqb}
use Rattle.std.proofs.lemmas.Fmt.{digits_decimal}
use Rattle.std.proofs.lemmas.List.Sums.{AllPass-from_list_all, position_or_len_is, split_at_first, passes_at_first}
use Rattle.std.proofs.lemmas.List.Splits.{slice_split_at, slice_split_none}
use Rattle.values.proofs.DecimalLemmas.{own}

-- no element is this byte
abbrev pub Lacks : ℕ → List ℕ → Type 0
Lacks byte t = All (λ b. (b == byte) ≡ false) t

differs : (p : ℕ → Bool) (byte b : ℕ) → p byte ≡ false → p b ≡ true → (b == byte) ≡ false
differs p byte b off on = ne_eqb b byte (λ same. let moved = ap p same in both_ways _ off (sym moved ∙ on))

-- a text whose bytes all pass a test lacks each byte that doesn't
pub lacks_from : (p : ℕ → Bool) (byte : ℕ) (t : List ℕ) → p byte ≡ false → list_all p t ≡ true → Lacks byte t
lacks_from p byte t off all = λ k d inside. differs p byte _ off (AllPass-from_list_all p t all k d inside)

-- the decimal text of a number lacks each byte that is no digit
pub decimal_lacks : (byte n : ℕ) → is_ascii_digit byte ≡ false → n < 2 ^ 64 → Lacks byte (decimal n)
decimal_lacks byte n off small = lacks_from is_ascii_digit byte (decimal n) off (digits_decimal own n small)

-- in a text that lacks the byte, followed by the byte, the first such byte is at the end of the text
pub first_after : (byte : ℕ) (t rest : List ℕ) → Lacks byte t
    → position_or_len (λ b. b == byte) (t ++ byte ∷ rest) ≡ length t
first_after byte t rest lacks = position_or_len_is (λ b. b == byte) (t ++ byte ∷ rest) (length t) 0
    (omega (arith, length-append t (byte ∷ rest)))
    (λ k inside. ap (λ b. b == byte) (get_or-append t (byte ∷ rest) 0 k inside) ∙ lacks k 0 inside)
    (λ _. ap (λ b. b == byte) (get_or-append_seam t byte rest 0) ∙ eq-eqb byte byte refl)

pub before_first-append : (byte : ℕ) (t rest : List ℕ) → Lacks byte t
    → before_first (λ b. b == byte) (t ++ byte ∷ rest) ≡ t
before_first-append byte t rest lacks =
    ap (λ n. take n (t ++ byte ∷ rest)) (first_after byte t rest lacks) ∙ take-append_seam t (byte ∷ rest)

pub after_first-append : (byte : ℕ) (t rest : List ℕ) → Lacks byte t
    → after_first (λ b. b == byte) (t ++ byte ∷ rest) ≡ rest
after_first-append byte t rest lacks =
    ap (λ n. drop (n + 1) (t ++ byte ∷ rest)) (first_after byte t rest lacks) ∙ drop-append-add t (byte ∷ rest) 1

-- if something follows the first such byte, the text is the part before it, the byte and the part after it
pub cut_at : (byte : ℕ) (t : List ℕ) → 0 < length (after_first (λ b. b == byte) t)
    → t ≡ before_first (λ b. b == byte) t ++ (byte ∷ after_first (λ b. b == byte) t)
cut_at byte t more =
    let place = position_or_len (λ b. b == byte) t in
    let inside : place < length t = omega (arith, length-drop (place + 1) t) in
    let here = eqb-true _ byte (passes_at_first (λ b. b == byte) t 0 inside) in
    split_at_first (λ b. b == byte) t 0 inside
    ∙ ap (λ b. before_first (λ x. x == byte) t ++ (b ∷ after_first (λ x. x == byte) t)) here

-- texts that lack a byte, joined by it and split at it, are the same texts
pub slice_split-join_with_byte : (byte : ℕ) (t : List ℕ) (ts : List (List ℕ))
    → AllByRecursion (Lacks byte) (t ∷ ts) → slice_split (λ b. b == byte) (join_with_byte byte (t ∷ ts)) ≡ t ∷ ts
slice_split-join_with_byte byte t [] lacks = slice_split_none (λ b. b == byte) t lacks.0
slice_split-join_with_byte byte t (u ∷ us) lacks =
    slice_split_at (λ b. b == byte) t byte (join_with_byte byte (u ∷ us)) lacks.0 (eq-eqb byte byte refl)
    ∙ ap (λ rest. t ∷ rest) (slice_split-join_with_byte byte u us lacks.1)

-- A text is its first word, followed by a space and a rest if there is a space.
use Rattle.std.proofs.Common.{◌≡◌, ℕ, ◌+◌, ◌<◌, ◌≤◌, false, eqb, List, [], ◌∷◌, ◌++◌, length, drop}
use Rattle.std.proofs.Common.{get_or, Option, Some, None, refl, sym, ap, ◌∙◌, arith, inl, inr}
use Rattle.std.specs.List.{AllByRecursion, after_first, position_or_len}
use Rattle.std.proofs.lemmas.Bool.{cases_lt, eqb-true, lt-ltb, le-ltb, cond-true, cond-false}
use Rattle.std.proofs.lemmas.List.{append-nil, take_at, drop_at, take_all, length-append, length-take-le, append_assoc}
use Rattle.std.proofs.lemmas.List.Sums.{split_at_first, passes_at_first}
use Rattle.lines.specs.KeyLines.{comment_text}
use Rattle.lines.specs.Reading.{comment_of, is_space, word_of}

-- no byte is a space
abbrev pub IsFreeOfSpace : List ℕ → Type 0
IsFreeOfSpace text = AllByRecursion (λ b. eqb b 32 ≡ false) text

-- the first space is right after a word without spaces
first_behind : (word rest : List ℕ) → IsFreeOfSpace word
    → position_or_len is_space (word ++ 32 ∷ rest) ≡ length word
first_behind [] rest free = refl
first_behind (x ∷ word) rest free = let more = first_behind word rest free.1 in rw free.0 (omega (arith, more))

-- there is no first space in a word without spaces
no_first : (word : List ℕ) → IsFreeOfSpace word → position_or_len is_space word ≡ length word
no_first [] free = refl
no_first (x ∷ word) free = let more = no_first word free.1 in rw free.0 (omega (arith, more))

-- The first word, before a space or alone.
pub word_of-text : (word : List ℕ) (comment : Option (List ℕ)) → IsFreeOfSpace word
    → word_of (word ++ comment_text comment) ≡ word
word_of-text word None free = rw (append-nil word, no_first word free) (take_all (length word) word (omega arith))
word_of-text word (Some c) free = rw (first_behind word c free) (take_at word (32 ∷ c) (length word) refl)

-- nothing follows a word that is the whole text
comment_none : (text : List ℕ) → length text ≤ length (word_of text) → comment_of text ≡ None
comment_none text le = cond-false _ (Some (after_first is_space text)) None (le-ltb _ _ le)

-- something follows a word that is not the whole text
comment_some : (text : List ℕ) → length (word_of text) < length text
    → comment_of text ≡ Some (after_first is_space text)
comment_some text lt = cond-true _ (Some (after_first is_space text)) None (lt-ltb _ _ lt)

-- The rest after the first word.
pub comment_of-text : (word : List ℕ) (comment : Option (List ℕ)) → IsFreeOfSpace word
    → comment_of (word ++ comment_text comment) ≡ comment
comment_of-text word None free =
    let same = word_of-text word None free in
    comment_none (word ++ []) (omega (arith, ap length same, length-append word []))
comment_of-text word (Some c) free =
    let same = word_of-text word (Some c) free in
    let apart : word ++ 32 ∷ c ≡ (word ++ 32 ∷ []) ++ c = sym (append_assoc word (32 ∷ []) c) in
    let size : length (word ++ 32 ∷ []) ≡ length word + 1 = omega (arith, length-append word (32 ∷ [])) in
    let behind : after_first is_space (word ++ 32 ∷ c) ≡ c =
    ap (λ (n : ℕ). drop (n + 1) (word ++ 32 ∷ c)) (first_behind word c free)
    ∙ ap (λ (l : List ℕ). drop (length word + 1) l) apart
    ∙ drop_at (word ++ 32 ∷ []) c (length word + 1) size in
    comment_some (word ++ 32 ∷ c) (omega (arith, ap length same, length-append word (32 ∷ c)))
    ∙ ap (λ (x : List ℕ). Some x) behind

-- A text is its first word and the rest.
pub text_is : (text : List ℕ) → text ≡ word_of text ++ comment_text (comment_of text)
text_is text =
    let at : ℕ = position_or_len is_space text in
    elim (cases_lt at (length text)) [
      | inl lt ↦
          let space : get_or text at 0 ≡ 32 = eqb-true _ _ (passes_at_first is_space text 0 lt) in
          let short : length (word_of text) < length text = omega (arith, length-take-le at text (omega arith)) in
          split_at_first is_space text 0 lt ∙ ap (λ (x : ℕ). word_of text ++ x ∷ after_first is_space text) space
          ∙ ap (λ (c : Option (List ℕ)). word_of text ++ comment_text c) (sym (comment_some text short))
      | inr ge ↦
          let whole : word_of text ≡ text = take_all at text ge in
          let none = comment_none text (omega (arith, ap length whole)) in
          sym whole ∙ sym (append-nil (word_of text))
          ∙ ap (λ (c : Option (List ℕ)). word_of text ++ comment_text c) (sym none)
    ]

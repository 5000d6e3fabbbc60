-- Lines as they are written.
use Rattle.std.proofs.Common.{add-one, drop-cons}
use Rattle.message.proofs.Words.{List, [], ap, append-nil, append_assoc, join_with_byte, lines_text, list_line, refl}
use Rattle.message.proofs.Words.{drop, get_or, length, ◌+◌, ◌<◌, suc, subst, sym, ℕ, ◌++◌, ◌∙◌, ◌∷◌, ◌≡◌}

-- the text of lines followed by more lines
pub text_append : (ls ms : List (List ℕ)) → lines_text (ls ++ ms) ≡ lines_text ls ++ lines_text ms
text_append [] ms = refl
text_append (l ∷ ls) ms =
    ap (λ (t : List ℕ). l ++ 10 ∷ t) (text_append ls ms) ∙ sym (append_assoc l (10 ∷ lines_text ls) (lines_text ms))

-- The output is the start, followed by these lines.
pub record IsPut (start : List ℕ) (ls : List (List ℕ)) (out : List ℕ) : Type 0 where
  pub is : out ≡ start ++ lines_text ls

pub none_put : (start : List ℕ) → IsPut start [] start
none_put start = record { is = sym (append-nil start) }

-- more lines after lines that were written
pub then_lines : {start before after : List ℕ} {ls : List (List ℕ)} → IsPut start ls before → (ms : List (List ℕ))
    → after ≡ before ++ lines_text ms → IsPut start (ls ++ ms) after
then_lines {start} {ls = ls} put ms next = record {
  is = next ∙ ap (λ (t : List ℕ). t ++ lines_text ms) put.is ∙ append_assoc start (lines_text ls) (lines_text ms)
      ∙ ap (λ (t : List ℕ). start ++ t) (sym (text_append ls ms));
}

-- one more line after them, with another form of the same line
pub then_line : {start before after l : List ℕ} {ls : List (List ℕ)} → IsPut start ls before → (line : List ℕ)
    → l ≡ line → after ≡ before ++ lines_text (l ∷ []) → IsPut start (ls ++ line ∷ []) after
then_line {start} {after = after} {l = l} {ls = ls} put line same next =
    subst (λ (x : List ℕ). IsPut start (ls ++ x ∷ []) after) same (then_lines put (l ∷ []) next)

-- two groups of lines, with lines between and after them, in the order in which they were written
pub in_order : (xs : List (List ℕ)) (l : List ℕ) (ys : List (List ℕ)) (m n : List ℕ)
    → (((xs ++ l ∷ []) ++ ys) ++ m ∷ []) ++ n ∷ [] ≡ xs ++ l ∷ (ys ++ m ∷ n ∷ [])
in_order xs l ys m n =
    append_assoc ((xs ++ l ∷ []) ++ ys) (m ∷ []) (n ∷ []) ∙ append_assoc (xs ++ l ∷ []) ys (m ∷ n ∷ [])
    ∙ append_assoc xs (l ∷ []) (ys ++ m ∷ n ∷ [])

-- texts, each preceded by a byte: the first by this one, the others by a comma
abbrev pub each_after : ℕ → List (List ℕ) → List ℕ
each_after before [] = []
each_after before (t ∷ ts) = before ∷ t ++ each_after 44 ts

after_joined : (before : ℕ) (t : List ℕ) (ts : List (List ℕ)) → each_after before (t ∷ ts) ≡ before
    ∷ join_with_byte 44 (t ∷ ts)
after_joined before t [] = ap (λ (x : List ℕ). before ∷ x) (append-nil t)
after_joined before t (u ∷ ts) = ap (λ (x : List ℕ). before ∷ t ++ x) (after_joined 44 u ts)

-- a word and its list as they are written
pub list_put : (word : List ℕ) (ts : List (List ℕ)) → word ++ each_after 32 ts ≡ list_line word ts
list_put word [] = append-nil word
list_put word (t ∷ ts) = ap (λ (x : List ℕ). word ++ x) (after_joined 32 t ts)

-- one more text of a list, after its byte
pub text_put : (out : List ℕ) (before : ℕ) (ts : List (List ℕ)) (n : ℕ) (t : List ℕ) → t ≡ get_or ts n t → n < length ts
    → out ++ each_after before (drop n ts) ≡ ((out ++ before ∷ []) ++ t) ++ each_after 44 (drop (n + 1) ts)
text_put out before ts n t is lt =
    let left : drop n ts ≡ t ∷ drop (n + 1) ts =
    rw (add-one, drop-cons ts n t lt) (ap (λ (u : List ℕ). u ∷ drop (suc n) ts) (sym is)) in
    ap (λ (us : List (List ℕ)). out ++ each_after before us) left
    ∙ sym (append_assoc out (before ∷ []) (t ++ each_after 44 (drop (n + 1) ts)))
    ∙ sym (append_assoc (out ++ before ∷ []) t (each_after 44 (drop (n + 1) ts)))

-- three texts written one after the other
pub in_turn : (start one two three a b c : List ℕ) → one ≡ start ++ a → two ≡ one ++ b → three ≡ two ++ c
    → three ≡ start ++ (a ++ (b ++ c))
in_turn start one two three a b c first second third =
    third ∙ ap (λ (t : List ℕ). t ++ c) (second ∙ ap (λ (t : List ℕ). t ++ b) first ∙ append_assoc start a b)
    ∙ append_assoc start (a ++ b) c ∙ ap (λ (t : List ℕ). start ++ t) (append_assoc a b c)

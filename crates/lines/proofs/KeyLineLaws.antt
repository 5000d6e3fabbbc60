-- A text is read as a valid public-key line exactly when it is its text; each fault is a property of the whole text.
use Rattle.std.proofs.Common.{◌≡◌, ◌≢◌, ℕ, true, ◌⊎◌, List, ◌++◌, length, take, drop}
use Rattle.std.proofs.Common.{Option, Some, None, Result, Ok, Err, refl, sym, ap, ap₂, subst, ◌∙◌, arith, inl, inr}
use Rattle.std.specs.Prelude.{IfOk, IsTrue}
use Rattle.std.specs.Result.{MatchResult}
use Rattle.std.specs.Str.{bytes_eq}
use Rattle.std.proofs.lemmas.Bool.{and_parts, and_from, eqb-true, both_ways, cases_Bool, cond-true, cond-false}
use Rattle.std.proofs.lemmas.List.{take-append-drop}
use Rattle.std.proofs.lemmas.Option.{cond_some}
use Rattle.std.proofs.lemmas.Slice.Eq.{bytes_eq-Decides}
use Rattle.base64.specs.Engines.{standard}
use Rattle.base64.specs.GeneralPurpose.{encode_of}
use Rattle.text.specs.Bytes.{IsBytes}
use Rattle.lines.specs.Keys.{key_blob, key_of}
use Rattle.lines.specs.KeyLines.{is_base64_word, is_key, is_comment, is_comment_or_none}
use Rattle.lines.specs.KeyLines.{is_key_line, comment_text, key_line_head, key_line_text}
use Rattle.text.specs.Results.{◌>>=◌, or_fault}
use Rattle.lines.specs.Reading.{after_type, word_of, comment_of, blob_of, checked_line}
use Rattle.lines.specs.Reading.{key_line_at, GivesKeyLine, IsLineFault, HasWrongType, HasBadBase64, HasBadBlob}
use Rattle.lines.specs.Reading.{HasBadComment}
use Rattle.lines.specs.declared.key_line.KeyLine.{KeyLine}
use Rattle.lines.specs.declared.key_line.LineFault.{LineFault}
use Rattle.lines.specs.declared.key_line.LineFault.TheVariants.{WrongType, BadBase64, BadBlob, BadComment, NoMemory}
use Rattle.lines.proofs.Alphabet.{letters_free, word_again}
use Rattle.text.proofs.ByteLemmas.{IsBytes-drop, IsBytes-take}
use Rattle.lines.proofs.BlobWords.{blob_of_again, blob_of_found, blob_of_none}
use Rattle.lines.proofs.Blobs.{IsBytes-key_blob, is_key_from, is_key_parts, key_of_again, key_of_found, length-key_blob}
use Rattle.lines.proofs.Words.{comment_of-text, text_is, word_of-text}

-- nothing, or something
option_cases : {A : Type 0} (o : Option A) → (o ≡ None) ⊎ ((x : A) × (o ≡ Some x))
option_cases None = inl refl
option_cases (Some x) = inr (x, refl)

-- ---- the type

-- the rest of the line after the type
after_type_found : (line rest : List ℕ) → after_type line ≡ Some rest → line ≡ key_line_head ++ rest
after_type_found line rest e =
    let is = cond_some (bytes_eq (take 12 line) key_line_head) (drop 12 line) rest e in
    let head : take 12 line ≡ key_line_head = (bytes_eq-Decides _ _).0 is.0 in
    sym (take-append-drop 12 line) ∙ ap₂ (λ (h r : List ℕ). h ++ r) head is.1

-- ---- the steps of reading

-- the remaining steps of reading after each step
abbrev read_key : List ℕ → List ℕ → Result KeyLine LineFault
read_key rest key = checked_line key (comment_of rest)

abbrev read_blob : List ℕ → List ℕ → Result KeyLine LineFault
read_blob rest blob = or_fault BadBlob (key_of blob) >>= read_key rest

abbrev read_rest : List ℕ → Result KeyLine LineFault
read_rest rest = or_fault BadBase64 (blob_of (word_of rest)) >>= read_blob rest

-- reading, if the type is missing
at_type : (line : List ℕ) → after_type line ≡ None → key_line_at line ≡ Err WrongType
unfolding key_line_at
at_type line none = rw none refl

-- reading, after the type
at_rest : (line rest : List ℕ) → after_type line ≡ Some rest → key_line_at line ≡ read_rest rest
unfolding key_line_at
at_rest line rest some = rw some refl

module _ (line rest : List ℕ) (is_rest : after_type line ≡ Some rest) where
  -- if the word encodes no blob
  at_word : blob_of (word_of rest) ≡ None → key_line_at line ≡ Err BadBase64
  at_word none = at_rest line rest is_rest ∙ rw none refl

  -- if the blob is no key's
  at_blob : (blob : List ℕ) → blob_of (word_of rest) ≡ Some blob → key_of blob ≡ None → key_line_at line ≡ Err BadBlob
  at_blob blob is_blob none = at_rest line rest is_rest ∙ rw (is_blob, none) refl

  -- once the blob and its key are known
  at_key : (blob key : List ℕ) → blob_of (word_of rest) ≡ Some blob → key_of blob ≡ Some key
      → key_line_at line ≡ read_key rest key
  at_key blob key is_blob is_key = at_rest line rest is_rest ∙ rw (is_blob, is_key) refl

-- ---- a line with any comment

-- the text of a line is read as its key, and then as its comment
at_line : (key : List ℕ) (comment : Option (List ℕ)) → IsTrue (is_key key)
    → key_line_at (key_line_text (record { key = key; comment = comment })) ≡ checked_line key comment
at_line key comment lawful =
    let parts = is_key_parts key lawful in
    let blob : List ℕ = key_blob key in
    let len : length blob ≡ 51 = omega (arith, length-key_blob key) in
    let word : List ℕ = encode_of standard blob in
    let rest : List ℕ = word ++ comment_text comment in
    let fits = IsBytes-key_blob key parts.0 parts.1 in
    let free = letters_free word (and_parts _ _ (word_again blob len fits)).1 in
    let is_blob : blob_of (word_of rest) ≡ Some blob =
    ap blob_of (word_of-text word comment free) ∙ blob_of_again blob len fits in
    at_key (key_line_head ++ rest) rest refl blob key is_blob (key_of_again key parts.0)
    ∙ ap (checked_line key) (comment_of-text word comment free)

-- The text of a valid line is read as that line.
pub key_line_again : (k : KeyLine) → IsTrue (is_key_line k) → key_line_at (key_line_text k) ≡ Ok k
key_line_again k lawful =
    let parts = and_parts (is_key k.key) (is_comment_or_none k.comment) lawful in
    at_line k.key k.comment parts.0 ∙ cond-true _ (Ok k) (Err BadComment) parts.1

-- ---- each fault, from the property of the text

-- A wrong type is reported.
wrong_type_again : (line : List ℕ) → HasWrongType line → key_line_at line ≡ Err WrongType
wrong_type_again line wrong = elim (option_cases (after_type line)) [
  | inl none ↦ at_type line none
  | inr some ↦ absurd (wrong some.0 (after_type_found line some.0 some.1))
]

-- A word that is not 68 letters is reported.
bad_base64_again : (line : List ℕ) → IsBytes line → HasBadBase64 line → key_line_at line ≡ Err BadBase64
bad_base64_again line fits bad =
    let rest : List ℕ = bad.0 in
    let is_rest : after_type line ≡ Some rest = ap after_type bad.1 in
    let rest_fits : IsBytes rest = IsBytes-drop 12 (key_line_head ++ rest) (subst IsBytes bad.1 fits) in
    elim (option_cases (blob_of (word_of rest))) [
      | inl none ↦ at_word line rest is_rest none
      | inr some ↦
          let found = blob_of_found (word_of rest) some.0 (IsBytes-take _ rest rest_fits) some.1 in
          let is_word : is_base64_word (word_of rest) ≡ true = ap is_base64_word found.0
          ∙ word_again some.0 found.1 found.2 in
          absurd (both_ways (is_base64_word (word_of rest)) bad.2 is_word)
    ]

-- A blob that is no key's is reported.
bad_blob_again : (line : List ℕ) → HasBadBlob line → key_line_at line ≡ Err BadBlob
bad_blob_again line bad =
    let rest : List ℕ = bad.0 in
    let blob : List ℕ = bad.1 in
    let is_rest : after_type line ≡ Some rest = ap after_type bad.2 in
    let is_blob : blob_of (word_of rest) ≡ Some blob = ap blob_of bad.5 ∙ blob_of_again blob bad.4 bad.3 in
    elim (option_cases (key_of blob)) [
      | inl none ↦ at_blob line rest is_rest blob is_blob none
      | inr some ↦ absurd (bad.6 some.0 (key_of_found blob some.0 some.1).0)
    ]

-- An invalid comment is reported.
bad_comment_again : (line : List ℕ) → HasBadComment line → key_line_at line ≡ Err BadComment
bad_comment_again line bad =
    ap key_line_at bad.4 ∙ at_line bad.0 (Some bad.1) bad.3 ∙ cond-false _ _ (Err BadComment) bad.2

-- A fault that is present in the text is reported.
pub fault_again : (line : List ℕ) (e : LineFault) → IsBytes line → e ≢ NoMemory → IsLineFault line e
    → key_line_at line ≡ Err e
fault_again line WrongType fits other fault = wrong_type_again line fault
fault_again line BadBase64 fits other fault = bad_base64_again line fits fault
fault_again line BadBlob fits other fault = bad_blob_again line fault
fault_again line BadComment fits other fault = bad_comment_again line fault
fault_again line NoMemory fits other fault = absurd (other refl)

-- ---- the result of reading

-- A line that is read is valid and has that text, and a reported fault is present in the text.
abbrev pub Says : List ℕ → Result KeyLine LineFault → Type 0
Says line read = MatchResult read (λ k. IsTrue (is_key_line k) × (line ≡ key_line_text k)) (IsLineFault line)

-- a line whose key is known
says_key : (line rest blob key : List ℕ) → IsBytes line → line ≡ key_line_head ++ rest
    → word_of rest ≡ encode_of standard blob → IsBytes blob → blob ≡ key_blob key → length key ≡ 32
    → Says line (checked_line key (comment_of rest))
says_key line rest blob key fits is_line is_word blob_fits is_blob len =
    let key_fits : IsBytes key = IsBytes-drop 19 (key_blob key) (subst IsBytes is_blob blob_fits) in
    let lawful : IsTrue (is_key key) = is_key_from key len key_fits in
    let is_base64 : word_of rest ≡ encode_of standard (key_blob key) = is_word ∙ ap (encode_of standard) is_blob in
    let is_rest : rest ≡ encode_of standard (key_blob key) ++ comment_text (comment_of rest) =
    text_is rest ∙ ap (λ (w : List ℕ). w ++ comment_text (comment_of rest)) is_base64 in
    checked (comment_of rest) lawful (is_line ∙ ap (λ (r : List ℕ). key_line_head ++ r) is_rest)
  where
    checked : (comment : Option (List ℕ)) → IsTrue (is_key key)
        → line ≡ key_line_text (record { key = key; comment = comment }) → Says line (checked_line key comment)
    checked None lawful text = (and_from _ _ lawful refl, text)
    checked (Some c) lawful text = elim (cases_Bool (is_comment c)) [
      | inl good ↦ rw good (and_from _ _ lawful good, text)
      | inr bad ↦ rw bad (key, c, bad, lawful, text)
    ]

-- The result of reading has these properties.
pub key_line_says : (line : List ℕ) → IsBytes line → Says line (key_line_at line)
key_line_says line fits = elim (option_cases (after_type line)) [
  | inl none ↦ subst (Says line) (sym (at_type line none)) (λ rest is. absurd (cc (sym none ∙ ap after_type is)))
  | inr some ↦
      let rest : List ℕ = some.0 in
      let is_line = after_type_found line rest some.1 in
      let rest_fits : IsBytes rest = IsBytes-drop 12 (key_line_head ++ rest) (subst IsBytes is_line fits) in
      let word_fits : IsBytes (word_of rest) = IsBytes-take _ rest rest_fits in
      elim (option_cases (blob_of (word_of rest))) [
        | inl none ↦
            subst (Says line) (sym (at_word line rest some.1 none))
            (rest, is_line, blob_of_none (word_of rest) word_fits none)
        | inr has ↦
            let blob : List ℕ = has.0 in
            let found = blob_of_found (word_of rest) blob word_fits has.1 in
            elim (option_cases (key_of blob)) [
              | inl none ↦
                  let no_key : (key : List ℕ) → blob ≢ key_blob key = λ key is.
                  let len : length key ≡ 32 = omega (arith, found.1, ap length is, length-key_blob key) in
                  absurd (cc (sym none ∙ ap key_of is ∙ key_of_again key len)) in
                  subst (Says line) (sym (at_blob line rest some.1 blob has.1 none))
                  (rest, blob, is_line, found.2, found.1, found.0, no_key)
              | inr key ↦
                  let is_key = key_of_found blob key.0 key.1 in
                  subst (Says line) (sym (at_key line rest some.1 blob key.0 has.1 key.1))
                  (says_key line rest blob key.0 fits is_line found.0 found.2 is_key.0 is_key.1)
            ]
      ]
]

-- A line that was read is valid and has that text.
pub found_from : (line : List ℕ) (r : Result KeyLine LineFault) → IsBytes line → GivesKeyLine r (key_line_at line)
    → IfOk r (λ k. IsTrue (is_key_line k) × (line ≡ key_line_text k))
found_from line (Ok k) fits given = subst (Says line) given (key_line_says line fits)
found_from line (Err e) fits given = tt

-- ---- theorems about all lines

-- No two valid lines have the same text.
pub key_line_unique : (a b : KeyLine) → IsTrue (is_key_line a) → IsTrue (is_key_line b)
    → key_line_text a ≡ key_line_text b → a ≡ b
key_line_unique a b lawful_a lawful_b same =
    ok_is a b (sym (key_line_again a lawful_a) ∙ ap key_line_at same ∙ key_line_again b lawful_b)
  where
    read : KeyLine → Result KeyLine LineFault
    read k = Ok k

    ok_is : (x y : KeyLine) → read x ≡ read y → x ≡ y
    ok_is x y e = cc

-- the key of a valid line has 32 bytes
pub key_size : (k : KeyLine) → is_key_line k ≡ true → length k.key ≡ 32
key_size k e = eqb-true _ _ (and_parts _ _ (and_parts (is_key k.key) (is_comment_or_none k.comment) e).0).0

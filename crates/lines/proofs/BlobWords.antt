-- The words that encode a blob, and the blob that a word encodes.
use Rattle.std.proofs.Common.{◌≡◌, ℕ, false, cond, eqb, ◌↔◌, List, length}
use Rattle.std.proofs.Common.{Some, None, Ok, refl, sym, ap, subst, ◌∙◌, inl, inr}
use Rattle.std.specs.Prelude.{IsTrue}
use Rattle.std.specs.List.{list_all}
use Rattle.std.specs.Result.{result_ok}
use Rattle.std.proofs.lemmas.Bool.{and_parts, eqb-true, eq-eqb, cases_Bool, cond-true, cond-false}
use Rattle.std.proofs.lemmas.Option.{cond_some, option_and_then_some}
use Rattle.base64.specs.Engines.{standard}
use Rattle.base64.specs.GeneralPurpose.{decode_of, encode_of}
use Rattle.text.specs.Bytes.{IsBytes}
use Rattle.lines.specs.KeyLines.{is_base64_letter, is_base64_word}
use Rattle.lines.specs.Reading.{blob_of}
use Rattle.lines.proofs.Alphabet.{word_again, word_found}
use Rattle.lines.proofs.Base64.{IsBytes-decode_of, base64_again, base64_found, length-encode_of}
use Rattle.lines.proofs.Cases.{ok_of}

-- the blob that a word encodes
pub blob_of_found : (word blob : List ℕ) → IsBytes word → blob_of word ≡ Some blob → (word ≡ encode_of standard blob)
    × (length blob ≡ 51) × IsBytes blob
blob_of_found word blob fits e = elim (cases_Bool (eqb (length word) 68)) [
  | inl long ↦
      let read = sym (cond-true _ _ None long) ∙ e in
      let kept = λ (b : List ℕ). cond (eqb (length b) 51) (Some b) None in
      option_and_then_some kept (result_ok (decode_of standard word)) blob read (λ b decoded is. whole b decoded is)
  | inr other ↦ absurd (cc (sym (cond-false _ _ None other) ∙ e))
]
  where
    whole : (b : List ℕ) → result_ok (decode_of standard word) ≡ Some b
        → cond (eqb (length b) 51) (Some b) None ≡ Some blob → (word ≡ encode_of standard blob) × (length blob ≡ 51)
        × IsBytes blob
    whole b decoded kept =
        let is = cond_some (eqb (length b) 51) b blob kept in
        let read : decode_of standard word ≡ Ok b = ok_of _ b decoded in
        subst (λ (x : List ℕ). (word ≡ encode_of standard x) × (length x ≡ 51) × IsBytes x) is.1
        (base64_found word b fits read, eqb-true _ _ is.0, IsBytes-decode_of standard word b fits read)

-- decoding the base64 of a blob gives the blob back
pub blob_of_again : (blob : List ℕ) → length blob ≡ 51 → IsBytes blob → blob_of (encode_of standard blob) ≡ Some blob
blob_of_again blob len fits =
    let long : length (encode_of standard blob) ≡ 68 = length-encode_of blob ∙ rw len refl in
    cond-true _ _ None (eq-eqb _ _ long) ∙ rw (base64_again blob fits) (cond-true _ (Some blob) None (eq-eqb _ _ len))

-- a word that encodes no blob is not 68 letters
pub blob_of_none : (word : List ℕ) → IsBytes word → blob_of word ≡ None → is_base64_word word ≡ false
blob_of_none word fits none = elim (cases_Bool (is_base64_word word)) [
  | inl is_word ↦
      let blob = word_found word fits is_word in
      let long = (and_parts (eqb (length word) 68) (list_all is_base64_letter word) is_word).0 in
      let some : blob_of word ≡ Some blob.0 = cond-true _ _ None long
      ∙ rw (blob.1) (cond-true _ (Some blob.0) None (eq-eqb _ _ blob.2)) in
      absurd (cc (sym none ∙ some))
  | inr no_word ↦ no_word
]

-- A word is 68 characters of the alphabet exactly when it is the base64 of 51 bytes.
pub word_is_blob : (word : List ℕ) → IsBytes word → IsTrue (is_base64_word word)
    ↔ ((blob : List ℕ) × IsBytes blob × (length blob ≡ 51) × (word ≡ encode_of standard blob))
word_is_blob word fits = (
  λ is_word.
      let found = word_found word fits is_word in
      let blob_fits = IsBytes-decode_of standard word found.0 fits found.1 in
      (found.0, blob_fits, found.2, base64_found word found.0 fits found.1),
  λ is_blob. ap is_base64_word is_blob.3 ∙ word_again is_blob.0 is_blob.2 is_blob.1,
)

-- Signatures within lines.
use Rattle.message.proofs.Words.{IsBytes, IsBytes-drop, IsBytes_from, List, None, Option, Signature, Some, []}
use Rattle.message.proofs.Words.{rest_after}
use Rattle.message.proofs.Words.{all_bytes, and_from, and_parts, ap, arith, bytes_eq-Decides, cases_Bool, cond-false}
use Rattle.message.proofs.Words.{cond-true, cond_some, drop, encode_of, eq-eqb, eqb, eqb-true, inl, inr, is_signature}
use Rattle.message.proofs.Words.{length, length-drop, ok_of, option_and_then, option_and_then_some, refl, replicate}
use Rattle.message.proofs.Words.{result_ok, same_Some, signature_text, standard, subst, sym, take, true, ℕ, ◌++◌, ◌∙◌}
use Rattle.message.proofs.Words.{◌≡◌}
use Rattle.std.specs.Option.{option_map}
use Rattle.base64.specs.GeneralPurpose.{decode_of}
use Rattle.lines.specs.Keys.{signature_blob, signature_of}
use Rattle.lines.proofs.Base64.{IsBytes-decode_of, base64_again, base64_found, length-encode_of}
use Rattle.text.proofs.ByteLemmas.{IsBytes-append}
use Rattle.message.specs.Reading.{signature_after, signature_at}
use Rattle.message.proofs.Readings.{IsField}
use Rattle.message.proofs.Fields.{IsHead, value_after}
use Rattle.message.proofs.Keys.{base64_line}

-- ---- blobs

-- a signature found in a blob has that blob
blob_found : (blob bytes : List ℕ) → signature_of blob ≡ Some bytes → (blob ≡ signature_blob bytes)
    × (length bytes ≡ 64) × (bytes ≡ drop 19 blob)
blob_found blob bytes e =
    let both = cond_some _ (drop 19 blob) bytes e in
    let parts = and_parts _ _ both.0 in (
      (bytes_eq-Decides _ _).0 parts.0 ∙ ap signature_blob both.1,
      omega (arith, ap length both.1, length-drop 19 blob, eqb-true _ _ parts.1),
      sym both.1,
    )

-- a signature is found in its blob
blob_again : (bytes : List ℕ) → length bytes ≡ 64 → signature_of (signature_blob bytes) ≡ Some bytes
blob_again bytes size =
    let same = (bytes_eq-Decides (signature_blob bytes) (signature_blob bytes)).1 refl in
    let all : length (signature_blob bytes) ≡ 83 = omega arith in
    cond-true _ (Some bytes) None (and_from _ _ same (eq-eqb _ _ all))

blob_is_bytes : (bytes : List ℕ) → length bytes ≡ 64 → IsBytes bytes → IsBytes (signature_blob bytes)
blob_is_bytes bytes size fits =
    let head : List ℕ = take 19 (signature_blob (replicate 64 0)) in
    let is : signature_blob bytes ≡ head ++ bytes = rw size refl in
    subst IsBytes (sym is) (IsBytes-append head bytes (IsBytes_from head refl) fits)

-- ---- base64

abbrev of : List ℕ → Signature
of bytes = record { bytes = bytes }

abbrev bytes_in : List ℕ → Option (List ℕ)
bytes_in t = option_and_then signature_of (result_ok (decode_of standard t))

mapped : (o : Option (List ℕ)) (s : Signature) → option_map of o ≡ Some s → o ≡ Some s.bytes
mapped None s e = absurd cc
mapped (Some b) s e = ap (λ (s : Signature). Some s.bytes) (same_Some (of b) s e)

whole : (t : List ℕ) (s : Signature) → IsBytes t → bytes_in t ≡ Some s.bytes
    → (is_signature s ≡ true) × (t ≡ signature_text s)
whole t s fits e =
    option_and_then_some signature_of (result_ok (decode_of standard t)) s.bytes e (λ blob decoded read.
    let is = blob_found blob s.bytes read in
    let blob_fits : IsBytes blob = IsBytes-decode_of standard t blob fits (ok_of _ blob decoded) in
    let bytes_fit : IsBytes s.bytes = subst IsBytes (sym is.2) (IsBytes-drop 19 blob blob_fits) in (
      and_from _ _ (eq-eqb _ _ is.1) (all_bytes s.bytes bytes_fit),
      base64_found t blob fits (ok_of _ blob decoded) ∙ ap (encode_of standard) is.0,
    ))

-- a signature is read from its text alone
signature_found : (t : List ℕ) (s : Signature) → IsBytes t → signature_at t ≡ Some s
    → (is_signature s ≡ true) × (t ≡ signature_text s)
signature_found t s fits e = elim (cases_Bool (eqb (length t) 112)) [
  | inl long ↦ whole t s fits (mapped (bytes_in t) s (sym (cond-true _ (option_map of (bytes_in t)) None long) ∙ e))
  | inr other ↦ absurd (cc (sym (cond-false _ (option_map of (bytes_in t)) None other) ∙ e))
]

-- a signature is read back from its text
signature_again : (s : Signature) → is_signature s ≡ true → signature_at (signature_text s) ≡ Some s
signature_again s is =
    let size : length s.bytes ≡ 64 = eqb-true _ _ (and_parts _ _ is).0 in
    let blob = signature_blob s.bytes in
    let all : length blob ≡ 83 = omega arith in
    let long : length (signature_text s) ≡ 112 = length-encode_of blob ∙ rw all refl in
    let fits : IsBytes s.bytes = IsBytes_from s.bytes (and_parts _ _ is).1 in
    cond-true _ _ None (eq-eqb _ _ long)
    ∙ rw (base64_again blob (blob_is_bytes s.bytes size fits)) (rw (blob_again s.bytes size) refl)

-- a signature after a word
pub signature_field : (head : List ℕ) → IsHead head → rest_after head [] ≡ None
    → IsField (signature_after head) (λ s. head ++ signature_text s) (λ s. is_signature s ≡ true)
signature_field head line empty =
    value_after head signature_at signature_text (λ s. is_signature s ≡ true) line empty (record {
      found = signature_found;
      again = signature_again;
      is_line = λ s _. base64_line (signature_blob s.bytes);
    })

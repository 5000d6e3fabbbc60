-- Words of 68 characters of the standard alphabet: exactly these are the base64 of 51 bytes.
use Rattle.std.proofs.Common.{◌≡◌, ℕ, zero, suc, ◌+◌, ◌*◌, ◌/◌, ◌%◌, ◌<◌, ◌≤◌, true, false}
use Rattle.std.proofs.Common.{eqb, ltb, nat_lt, slice_set, List, [], ◌∷◌, ◌++◌, length, drop}
use Rattle.std.proofs.Common.{replicate, slice_index, Option, None, Ok, refl, sym, ap, ◌∙◌, arith}
use Rattle.std.specs.List.{AllByRecursion, fold, list_all}
use Rattle.std.proofs.lemmas.Bool.{agree_below_at, and_from, and_parts, cond-false, eq-eqb, eqb-true, ltb-true, ne_eqb}
use Rattle.std.proofs.lemmas.List.Sums.{AllPass-from_list_all}
use Rattle.std.proofs.lemmas.List.{append-nil, drop_all, drop_more, length-append}
use Rattle.base64.specs.Engines.{standard}
use Rattle.base64.specs.GeneralPurpose.{decode_of, encode_of}
use Rattle.text.specs.Bytes.{IsBytes}
use Rattle.base64.specs.Rfc4648.{encode_symbols, padding_len}
use Rattle.base64.specs.Decode.{decode_error, decode_outcome, decoded_bytes, groups_before_last}
use Rattle.base64.specs.Decode.{groups_bytes, groups_error, lone_error, no_leftover, or_else}
use Rattle.base64.specs.Decode.{push_leftover, scan, scan_last, suffix_bytes, suffix_error, symbol_error}
use Rattle.base64.specs.declared.decode.DecodeError.{DecodeError}
use Rattle.base64.specs.declared.engine.DecodePaddingMode.TheVariants.{RequireCanonical}
use Rattle.base64.proofs.Decoding.{length-groups_bytes, scan-cons_ok, scan-nil}
use Rattle.lines.specs.KeyLines.{is_base64_letter, is_base64_word}
use Rattle.lines.proofs.Base64.{Leftover, length-encode_of}
use Rattle.lines.proofs.Words.{IsFreeOfSpace}

abbrev table : List ℕ
table = standard.encode_table

abbrev values : List ℕ
values = standard.decode_table

-- ---- letters and their values

-- the letters are the bytes to which the engine assigns a value below 64
value_below : (x : ℕ) → x < 256 → is_base64_letter x ≡ ltb (slice_index values x) 64
value_below x lt = agree_below_at is_base64_letter (λ y. ltb (slice_index values y) 64) 256 x refl lt

-- each symbol is a letter
symbol_letter : (i : ℕ) → i < 64 → is_base64_letter (slice_index table i) ≡ true
symbol_letter i lt = agree_below_at (λ j. is_base64_letter (slice_index table j)) (λ j. true) 64 i refl lt

-- a letter is not the padding
not_padding : (x : ℕ) → x < 256 → is_base64_letter x ≡ true → eqb x 61 ≡ false
not_padding x lt letter = ne_eqb x 61 (λ same. absurd (cc (ap is_base64_letter (sym same) ∙ letter)))

-- a letter has a value
has_value : (x : ℕ) → x < 256 → is_base64_letter x ≡ true → eqb (slice_index values x) 255 ≡ false
has_value x lt letter = let below : slice_index values x < 64 = ltb-true _ _ (sym (value_below x lt)
    ∙ letter) in ne_eqb _ _ (λ same. absurd (omega arith))

letter_at : (word : List ℕ) (i : ℕ) → list_all is_base64_letter word ≡ true → i < length word
    → is_base64_letter (slice_index word i) ≡ true
letter_at word i e lt = AllPass-from_list_all is_base64_letter word e i 0 lt

-- letters contain no space
pub letters_free : (word : List ℕ) → list_all is_base64_letter word ≡ true → IsFreeOfSpace word
letters_free [] e = tt
letters_free (x ∷ word) e =
    let parts = and_parts (is_base64_letter x) _ e in
    let apart = ne_eqb x 32 (λ same. absurd (cc (ap is_base64_letter (sym same) ∙ parts.0))) in
    (apart, letters_free word parts.1)

-- ---- writing

letters_of : (m : List ℕ) → IsBytes m → list_all is_base64_letter (encode_symbols table m) ≡ true
unfolding encode_symbols
letters_of [] fits = refl
letters_of (a ∷ []) fits =
    let a< : a < 256 = fits 0 in
    and_from _ _ (symbol_letter (a / 4) (omega arith)) (and_from _ _ (symbol_letter (a % 4 * 16) (omega arith)) refl)
letters_of (a ∷ b ∷ []) fits =
    let a< : a < 256 = fits 0 in
    let b< : b < 256 = fits 1 in
    and_from _ _ (symbol_letter (a / 4) (omega arith))
    (and_from _ _ (symbol_letter (a % 4 * 16 + b / 16) (omega arith))
    (and_from _ _ (symbol_letter (b % 16 * 4) (omega arith)) refl))
letters_of (a ∷ b ∷ c ∷ rest) fits =
    let a< : a < 256 = fits 0 in
    let b< : b < 256 = fits 1 in
    let c< : c < 256 = fits 2 in
    and_from _ _ (symbol_letter (a / 4) (omega arith))
    (and_from _ _ (symbol_letter (a % 4 * 16 + b / 16) (omega arith))
    (and_from _ _ (symbol_letter (b % 16 * 4 + c / 64) (omega arith))
    (and_from _ _ (symbol_letter (c % 64) (omega arith)) (letters_of rest (λ k. fits (suc (suc (suc k))))))))

-- The base64 of 51 bytes is 68 letters.
pub word_again : (blob : List ℕ) → length blob ≡ 51 → IsBytes blob → is_base64_word (encode_of standard blob) ≡ true
word_again blob len fits =
    let long : length (encode_of standard blob) ≡ 68 = length-encode_of blob ∙ rw len refl in
    let bare : encode_of standard blob ≡ encode_symbols table blob =
    ap (λ (n : ℕ). encode_symbols table blob ++ replicate (padding_len n) 61) len
    ∙ append-nil (encode_symbols table blob) in
    and_from _ _ (eq-eqb _ _ long) (ap (list_all is_base64_letter) bare ∙ letters_of blob fits)

-- ---- reading

both_none : (x y : Option DecodeError) → x ≡ None → y ≡ None → or_else x y ≡ None
both_none x y x_none y_none = rw (x_none) y_none

symbol_none : (word : List ℕ) (i : ℕ) → IsBytes word → list_all is_base64_letter word ≡ true → i < length word
    → symbol_error values word i ≡ None
symbol_none word i fits letters lt = cond-false _ _ None (has_value (slice_index word i) (fits i)
    (letter_at word i letters lt))

groups_none : (word : List ℕ) (q : ℕ) → IsBytes word → list_all is_base64_letter word ≡ true → 4 * q ≤ length word
    → groups_error values word q ≡ None
unfolding groups_error
groups_none word zero fits letters le = refl
groups_none word (suc q) fits letters le =
    let at = λ (i : ℕ) (lt : i < length word). symbol_none word i fits letters lt in
    let i : ℕ = 4 * q in
    both_none _ _ (groups_none word q fits letters (omega arith))
    (both_none _ _ (at i (omega arith)) (both_none _ _ (at (i + 1) (omega arith)) (both_none _ _ (at (i + 2)
    (omega arith)) (at (i + 3) (omega arith)))))

-- the state of the scan after a letter
abbrev with_letter : Leftover → ℕ → Leftover
with_letter st b =
    record st {
      morsels = slice_set st.morsels st.morsels_count (slice_index values b);
      morsels_count = st.morsels_count + 1;
      last_symbol = b;
      last_symbol_value = slice_index values b;
    }

letter_kept : (st : Leftover) (i b : ℕ) → nat_lt 0 st.padding_count ≡ false → eqb b 61 ≡ false
    → eqb (slice_index values b) 255 ≡ false → push_leftover values 61 64 st i b ≡ Ok (with_letter st b)
letter_kept st i b unpadded plain value = rw (plain, unpadded, value) refl

-- each byte has a value, and none is padding
abbrev AreRead : List ℕ → Type 0
AreRead bs = AllByRecursion (λ b. (eqb b 61 ≡ false) × (eqb (slice_index values b) 255 ≡ false)) bs

scan_letters : (st : Leftover) (i : ℕ) (bs : List ℕ) → nat_lt 0 st.padding_count ≡ false → AreRead bs
    → scan values 61 64 st i bs ≡ Ok (fold with_letter st bs)
scan_letters st i [] unpadded all = scan-nil values 61 64 st i
scan_letters st i (b ∷ bs) unpadded all =
    scan-cons_ok values 61 64 st i b bs (with_letter st b) (letter_kept st i b unpadded all.0.0 all.0.1)
    ∙ scan_letters (with_letter st b) (i + 1) bs unpadded all.1

-- a last group of four letters is read completely
last_four : (word : List ℕ) (w x y z : ℕ) → length word ≡ 68 → drop 64 word ≡ w ∷ x ∷ y ∷ z ∷ []
    → AreRead (w ∷ x ∷ y ∷ z ∷ [])
    → (suffix_error values 61 false RequireCanonical 64 word ≡ None) × (length (suffix_bytes values 61 64 word) ≡ 3)
last_four word w x y z len last all =
    let scanned : scan_last values 61 64 word ≡ Ok (fold with_letter no_leftover (w ∷ x ∷ y ∷ z ∷ [])) =
    ap (scan values 61 64 no_leftover 0) last ∙ scan_letters no_leftover 0 (w ∷ x ∷ y ∷ z ∷ []) refl all in
    (rw (scanned, len) refl, rw scanned refl)

four_left : (word : List ℕ) → length word ≡ 68
    → drop 64 word ≡ slice_index word 64 ∷ slice_index word 65 ∷ slice_index word 66 ∷ slice_index word 67 ∷ []
four_left word len =
    let a = drop_more word 64 0 (omega arith) in
    let b = drop_more word 65 0 (omega arith) in
    let c = drop_more word 66 0 (omega arith) in
    let d = drop_more word 67 0 (omega arith) in
    let e : drop 68 word ≡ [] = drop_all 68 word (omega arith) in
    rw (a, b, c, d, e) refl

-- Every word of 68 letters is the base64 of 51 bytes.
pub word_found : (word : List ℕ) → IsBytes word → is_base64_word word ≡ true → (blob : List ℕ)
    × (decode_of standard word ≡ Ok blob) × (length blob ≡ 51)
word_found word fits is_word =
    let parts = and_parts (eqb (length word) 68) (list_all is_base64_letter word) is_word in
    let len : length word ≡ 68 = eqb-true _ _ parts.0 in
    let letter = λ (i : ℕ) (lt : i < length word). letter_at word i parts.1 lt in
    let read : (i : ℕ) → i < length word → (eqb (slice_index word i) 61 ≡ false)
    × (eqb (slice_index values (slice_index word i)) 255 ≡ false) = λ i lt.
    (not_padding (slice_index word i) (fits i) (letter i lt), has_value (slice_index word i) (fits i) (letter i lt)) in
    let last = last_four word (slice_index word 64) (slice_index word 65) (slice_index word 66) (slice_index word 67)
    len (four_left word len)
    (read 64 (omega arith), (read 65 (omega arith), (read 66 (omega arith), (read 67 (omega arith), tt)))) in
    let q : ℕ = groups_before_last (length word) in
    let lone : lone_error values 61 word ≡ None = rw len refl in
    let groups : groups_error values word q ≡ None = groups_none word q fits parts.1 (omega arith) in
    let suffix : suffix_error values 61 false RequireCanonical (4 * q) word ≡ None =
    ap (λ (n : ℕ). suffix_error values 61 false RequireCanonical (4 * groups_before_last n) word) len ∙ last.0 in
    let none : decode_error values 61 false RequireCanonical word ≡ None = both_none _ _ lone
    (both_none _ _ groups suffix) in
    let three : length (suffix_bytes values 61 (4 * q) word) ≡ 3 =
    ap (λ (n : ℕ). length (suffix_bytes values 61 (4 * groups_before_last n) word)) len ∙ last.1 in
    let sixteen : q ≡ 16 = omega arith in (
      decoded_bytes values 61 word,
      ap (λ (e : Option DecodeError). decode_outcome e
          (decoded_bytes values 61 word)) none,
      omega (
        arith,
        length-append (groups_bytes values word q) (suffix_bytes values 61 (4 * q) word),
        length-groups_bytes values word q,
      ),
    )

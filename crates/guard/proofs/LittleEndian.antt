-- The number of little-endian bytes.
use Rattle.std.proofs.Common.{◌≡◌, ℕ, zero, suc, ◌+◌, ◌*◌, ◌^◌, ◌<◌, ◌/◌, ◌%◌, List, [], ◌∷◌, length, true}
use Rattle.std.proofs.Common.{refl, sym, ap, ◌∙◌, arith, get_or, set, bit_and, map}
use Rattle.std.specs.Prelude.{◌==◌}
use Rattle.std.specs.List.{list_all, list_any}
use Rattle.std.specs.Str.{bytes_eq}
use Rattle.std.proofs.lemmas.Nat.{and_mask, mod-pow-add, shr_high, mod_low}
use Rattle.std.proofs.lemmas.Bool.{and_parts, eqb-true}
use Rattle.std.proofs.lemmas.Bool.Decides.{same_from_decides, Decides-eqb, Decides-like}
use Rattle.std.proofs.lemmas.Slice.Eq.{bytes_eq-Decides}
use Rattle.text.specs.Bytes.{IsBytes}
use Rattle.text.proofs.ByteLemmas.{IsBytes_from}
use Rattle.guard.specs.SmallOrder.{is_encoding, little_endian}

-- a byte before a number, below a power of two
joined : (low high k : ℕ) → low < 256 → low + 256 * (high % 2 ^ k) ≡ (low + 256 * high) % 2 ^ (k + 8)
joined low high k is =
    let turned : low + 256 * high ≡ high * 256 + low = omega arith in
    let above : (high * 256 + low) / 256 ≡ high = shr_high high 8 low is in
    let below : (high * 256 + low) % 256 ≡ low = mod_low high 8 low is in
    let split : (high * 256 + low) % 2 ^ (k + 8) ≡ high % 2 ^ k * 256 + low =
    rw (mod-pow-add (high * 256 + low) k 8, above, below) refl in
    rw (turned, split) (omega arith)

-- the last byte without its highest bit is the number without its highest bit
pub cleared : (n : ℕ) (bs : List ℕ) → length bs ≡ suc n → IsBytes bs
    → little_endian (set bs n (bit_and (get_or bs n 0) 127)) ≡ little_endian bs % 2 ^ (8 * n + 7)
cleared n [] e is = absurd cc
cleared zero (b ∷ c ∷ bs) e is = absurd cc
cleared zero (b ∷ []) e is =
    let masked : bit_and b 127 ≡ b % 128 = and_mask b 7 in
    let nothing : b + 0 ≡ b = omega arith in
    rw (masked, nothing) (omega arith)
cleared (suc n) (b ∷ bs) e is =
    let shorter : length bs ≡ suc n = cc in
    let power : 8 * suc n + 7 ≡ (8 * n + 7) + 8 = omega arith in
    rw (cleared n bs shorter (λ i. is (suc i)), power) (joined b (little_endian bs) (8 * n + 7) (is 0))

-- lists of bytes of the same length and number are equal
pub same_number : (xs bs : List ℕ) → length xs ≡ length bs → IsBytes xs → IsBytes bs
    → little_endian xs ≡ little_endian bs → xs ≡ bs
same_number [] [] e is are same = refl
same_number [] (b ∷ bs) e is are same = absurd cc
same_number (x ∷ xs) [] e is are same = absurd cc
same_number (x ∷ xs) (b ∷ bs) e is are same =
    let first : x < 256 = is 0 in
    let other : b < 256 = are 0 in
    let heads : x ≡ b = omega arith in
    let tails : little_endian xs ≡ little_endian bs = omega arith in
    let lengths : length xs ≡ length bs = cc in
    let rest : xs ≡ bs = same_number xs bs lengths (λ i. is (suc i)) (λ i. are (suc i)) tails in
    cc

-- ---- a table of encodings

-- bytes are in a table if their number is among the table's numbers
pub listed : (es : List (List ℕ)) (bs : List ℕ) → list_all is_encoding es ≡ true → length bs ≡ 32 → IsBytes bs
    → list_any (λ e. bytes_eq e bs) es ≡ list_any (λ n. n == little_endian bs) (map little_endian es)
listed [] bs table size are = refl
listed (e ∷ es) bs table size are =
    let parts = and_parts _ _ table in
    let first = and_parts _ _ parts.0 in
    let sizes : length e ≡ length bs = eqb-true (length e) 32 first.0 ∙ sym size in
    let back : little_endian e ≡ little_endian bs → e ≡ bs = same_number e bs sizes (IsBytes_from e first.1) are in
    let same : bytes_eq e bs ≡ (little_endian e == little_endian bs) =
    same_from_decides _ _ (bytes_eq-Decides e bs) (Decides-like _ back (λ is. ap little_endian is) (Decides-eqb _ _)) in
    let rest : list_any (λ e. bytes_eq e bs) es ≡ list_any (λ n. n == little_endian bs) (map little_endian es) =
    listed es bs parts.1 size are in
    rw (same, rest) refl

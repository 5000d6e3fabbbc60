-- Bytes are read as a value exactly when they begin with the value's text.
use Rattle.std.proofs.Common.{◌≡◌, ℕ, ◌+◌, ◌^◌, ◌<◌, ◌≤◌, Bool, true, false, cond, ltb, List, ◌++◌, length}
use Rattle.std.proofs.Common.{take, drop, Some, None, refl, sym, ap, ◌∙◌, append_assoc, arith}
use Rattle.std.specs.Int.{Width, w32, w64, byte_len, from_be_bytes, to_be_bytes}
use Rattle.std.proofs.lemmas.Bool.{ltb-false, le-ltb}
use Rattle.std.proofs.lemmas.List.{take_at, drop_at, take-append-drop, length-append}
use Rattle.std.proofs.lemmas.List.{length-take}
use Rattle.std.proofs.lemmas.Nat.{be_bytes_4, be_bytes_8, from_be_bytes-to_be_bytes_4, from_be_bytes-to_be_bytes_8}
use Rattle.std.proofs.lemmas.Option.{option_and_then_some, same_Some}
use Rattle.text.specs.Bytes.{IsBytes}
use Rattle.text.proofs.ByteLemmas.{IsBytes-take}
use Rattle.wire.specs.Texts.{string_text}
use Rattle.wire.specs.Reading.{number_at, front_of, string_at}

-- a test that did not rule out the value
some_if : {A : Type 0} (b : Bool) (x y : A) → cond b None (Some x) ≡ Some y → (b ≡ false) × (x ≡ y)
some_if true x y e = absurd cc
some_if false x y e = (refl, cc)

-- numbers below the limit and texts of the width correspond to each other
pub record IsWide (w : Width) (limit : ℕ) : Type 0 where
  pub len : (n : ℕ) → length (to_be_bytes w n) ≡ byte_len w
  pub back : (bytes : List ℕ) → length bytes ≡ byte_len w → IsBytes bytes
      → to_be_bytes w (from_be_bytes w bytes) ≡ bytes
  pub again : (n : ℕ) → n < limit → from_be_bytes w (to_be_bytes w n) ≡ n

-- the width of 4 bytes
pub wide32 : IsWide w32 (2 ^ 32)
wide32 = record {
  len = λ n. refl;
  back = λ bytes len fits. be_bytes_4 bytes _ len fits refl;
  again = λ n lt. from_be_bytes-to_be_bytes_4 n lt;
}

-- the width of 8 bytes
pub wide64 : IsWide w64 (2 ^ 64)
wide64 = record {
  len = λ n. refl;
  back = λ bytes len fits. be_bytes_8 bytes _ len fits refl;
  again = λ n lt. from_be_bytes-to_be_bytes_8 n lt;
}

-- bytes that are read as a number begin with the number's text
pub number_takes : (w : Width) (limit : ℕ) (wide : IsWide w limit) (bytes : List ℕ) (n : ℕ) (rest : List ℕ)
    → IsBytes bytes → number_at w bytes ≡ Some (n, rest) → bytes ≡ to_be_bytes w n ++ rest
number_takes w limit wide bytes n rest fits e =
    let size = byte_len w in
    let front = take size bytes in
    let g = some_if (ltb (length bytes) size) (from_be_bytes w front, drop size bytes) (n, rest) e in
    let long : size ≤ length bytes = ltb-false _ _ g.0 in
    let n-is : from_be_bytes w front ≡ n = ap (λ (p : ℕ × List ℕ). p.0) g.1 in
    let rest-is : drop size bytes ≡ rest = ap (λ (p : ℕ × List ℕ). p.1) g.1 in
    let front-size : length front ≡ size = omega (arith, length-take size bytes) in
    let front-is : to_be_bytes w n ≡ front = rw (← n-is) (wide.back front front-size (IsBytes-take size bytes fits)) in
    rw (front-is, ← rest-is) (sym (take-append-drop size bytes))

-- a number's text is read as the number
pub number_again : (w : Width) (limit : ℕ) (wide : IsWide w limit) (n : ℕ) (rest : List ℕ) → n < limit
    → number_at w (to_be_bytes w n ++ rest) ≡ Some (n, rest)
number_again w limit wide n rest lt =
    let text = to_be_bytes w n in
    let len = wide.len n in
    let long : ltb (length (text ++ rest)) (byte_len w) ≡ false = le-ltb _ _ (omega (arith, length-append text rest)) in
    rw (long, take_at text rest (byte_len w) len, drop_at text rest (byte_len w) len, wide.again n lt) refl

-- bytes that are read as a string begin with the string's text
pub string_takes : (bytes text rest : List ℕ) → IsBytes bytes → string_at bytes ≡ Some (text, rest)
    → bytes ≡ string_text text ++ rest
string_takes bytes text rest fits e =
    option_and_then_some (λ n. front_of n.0 n.1) (number_at w32 bytes) (text, rest) e (λ n is gives.
    let head = number_takes w32 (2 ^ 32) wide32 bytes n.0 n.1 fits is in
    let g = some_if (ltb (length n.1) n.0) (take n.0 n.1, drop n.0 n.1) (text, rest) gives in
    let long : n.0 ≤ length n.1 = ltb-false _ _ g.0 in
    let len : length (take n.0 n.1) ≡ n.0 = omega (arith, length-take n.0 n.1) in
    let text-is : take n.0 n.1 ≡ text = ap (λ (p : List ℕ × List ℕ). p.0) g.1 in
    let rest-is : drop n.0 n.1 ≡ rest = ap (λ (p : List ℕ × List ℕ). p.1) g.1 in
    let len-is : n.0 ≡ length text = sym len ∙ ap length text-is in
    let both : n.1 ≡ text ++ rest =
    sym (take-append-drop n.0 n.1) ∙ ap (λ (t : List ℕ). t ++ drop n.0 n.1) text-is
    ∙ ap (λ (r : List ℕ). text ++ r) rest-is in
    head
    ∙ ap (λ (k : ℕ). to_be_bytes w32 k ++ n.1) len-is
    ∙ ap (λ (r : List ℕ). to_be_bytes w32 (length text) ++ r) both
    ∙ sym (append_assoc (to_be_bytes w32 (length text)) text rest))

-- a string's text is read as the string
pub string_again : (text rest : List ℕ) → length text < 2 ^ 32
    → string_at (string_text text ++ rest) ≡ Some (text, rest)
string_again text rest lt =
    let size = length text in
    let long : ltb (length (text ++ rest)) size ≡ false = le-ltb _ _ (omega (arith, length-append text rest)) in
    let head = number_again w32 (2 ^ 32) wide32 size (text ++ rest) lt in
    rw (head, long, take_at text rest size refl, drop_at text rest size refl) refl

-- a number's text determines the number and the bytes after it
pub number_unique : (w : Width) (limit : ℕ) (wide : IsWide w limit) (m n : ℕ) (after rest : List ℕ)
    → m < limit → n < limit → to_be_bytes w m ++ after ≡ to_be_bytes w n ++ rest → (m ≡ n) × (after ≡ rest)
number_unique w limit wide m n after rest m-lt n-lt e =
    let first = number_again w limit wide m after m-lt in
    let second = number_again w limit wide n rest n-lt in
    let same : (m, after) ≡ (n, rest) = same_Some _ _ (sym first ∙ ap (number_at w) e ∙ second) in
    (ap (λ p. p.0) same, ap (λ p. p.1) same)

-- a string's text determines the string and the bytes after it
pub string_unique : (a b after rest : List ℕ) → length a < 2 ^ 32 → length b < 2 ^ 32
    → string_text a ++ after ≡ string_text b ++ rest → (a ≡ b) × (after ≡ rest)
string_unique a b after rest a-lt b-lt e =
    let first = string_again a after a-lt in
    let second = string_again b rest b-lt in
    let same : (a, after) ≡ (b, rest) = same_Some _ _ (sym first ∙ ap string_at e ∙ second) in
    (ap (λ p. p.0) same, ap (λ p. p.1) same)

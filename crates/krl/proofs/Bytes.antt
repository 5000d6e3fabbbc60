-- Bytes, and strings at their front.
use Rattle.krl.proofs.Words.{Bool, IfNone, IfSome, IsBytes, IsString, List, None, Option, Some, ap, arith, cond}
use Rattle.krl.proofs.Words.{drop, false, length, ltb, same_Some, string_text, subst, take, true, w32, ℕ, ◌++◌}
use Rattle.krl.proofs.Words.{◌<◌, ◌^◌, ◌≡◌, ◌≢◌}
use Rattle.std.proofs.Common.{Bor}
use Rattle.std.specs.Option.{option_copied}
use Rattle.std.specs.Int.{from_be_bytes}
use Rattle.std.proofs.lemmas.List.{length-take}
use Rattle.std.proofs.lemmas.Option.{option_and_then_some}
use Rattle.wire.specs.Reading.{Moves, front_of, number_at, string_at}
use Rattle.text.proofs.ByteLemmas.{IsBytes-take}

u32_fits : (bytes : List ℕ) → IsBytes bytes → from_be_bytes w32 bytes < 2 ^ 32
u32_fits bytes h =
    let a = h 0 in
    let b = h 1 in
    let c = h 2 in
    let d = h 3 in
    omega arith

-- the length of a string that is read from bytes fits in 32 bits
pub string_fits : (bytes text rest : List ℕ) → IsBytes bytes → string_at bytes ≡ Some (text, rest) → IsString text
string_fits bytes text rest h e =
    option_and_then_some (λ n. front_of n.0 n.1) (number_at w32 bytes) (text, rest) e (λ n is gives.
    let small : n.0 < 2 ^ 32 = number_small n.0 n.1 is in
    front_small n.0 n.1 small gives)
  where
    number_small : (n : ℕ) (after : List ℕ) → number_at w32 bytes ≡ Some (n, after) → n < 2 ^ 32
    number_small n after is = by_test (ltb (length bytes) 4) is
      where
        by_test : (b : Bool)
            → cond {A = Option (ℕ × List ℕ)} b None (Some (from_be_bytes w32 (take 4 bytes), drop 4 bytes))
            ≡ Some (n, after) → n < 2 ^ 32
        by_test true is = absurd cc
        by_test false is = let same = ap (λ (p : ℕ × List ℕ). p.0) (same_Some _ _ is) in
            subst (λ (k : ℕ). k < 2 ^ 32) same (u32_fits (take 4 bytes) (IsBytes-take 4 bytes h))

    front_small : (n : ℕ) (after : List ℕ) → n < 2 ^ 32 → front_of n after ≡ Some (text, rest) → IsString text
    front_small n after small gives = by_test (ltb (length after) n) gives
      where
        by_test : (b : Bool)
            → cond {A = Option (List ℕ × List ℕ)} b None (Some (take n after, drop n after)) ≡ Some (text, rest)
            → IsString text
        by_test true gives = absurd cc
        by_test false gives = let same = ap (λ (p : List ℕ × List ℕ). p.0) (same_Some _ _ gives) in
            subst IsString same (omega (arith, length-take n after))

-- the result of a cursor's string call, with its length
pub found_string : (o : Option (Bor (List ℕ))) (old new : List ℕ) → IsBytes old
    → Moves (string_at old) (option_copied o) old new → IfSome o (λ b. old ≡ string_text b.now ++ new)
    → IfSome o (λ b. IsString b.now × (old ≡ string_text b.now ++ new))
found_string (Some b) old new h moved found = (string_fits old b.now new h moved, found)
found_string None old new h moved found = tt

pub cut_string : (o : Option (Bor (List ℕ))) (old new : List ℕ)
    → ((b rest : List ℕ) → length b < 2 ^ 32 → old ≡ string_text b ++ rest → (option_copied o ≡ Some b) × (new ≡ rest))
    → IfNone o ((b rest : List ℕ) → IsString b → old ≢ string_text b ++ rest)
cut_string (Some b) old new only = tt
cut_string None old new only = λ b rest is e. let some = (only b rest is e).0 in absurd (cc some)

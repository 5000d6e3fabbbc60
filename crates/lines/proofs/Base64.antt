-- The standard base64 engine: it reads back exactly what it writes.
use Rattle.std.proofs.Common.{◌≡◌, ℕ, zero, suc, ◌+◌, ◌*◌, ◌/◌, ◌<◌, true, false, not, eqb, List}
use Rattle.std.proofs.Common.{[], ◌∷◌, length, drop, replicate, get_or, slice_index, Option}
use Rattle.std.proofs.Common.{Some, None, Result, Ok, Err, refl, sym, subst, ◌∙◌, ◌⊎◌, arith, inl, inr}
use Rattle.std.specs.List.{list_all}
use Rattle.std.proofs.lemmas.Bool.{and_parts, not-true}
use Rattle.std.proofs.lemmas.List.{length-append, length-replicate}
use Rattle.text.specs.Bytes.{IsBytes}
use Rattle.text.proofs.ByteLemmas.{IsBytes-append, IsBytes-drop, IsBytes-take}
use Rattle.base64.specs.Engines.{standard}
use Rattle.base64.specs.GeneralPurpose.{IsConsistent, IsStrict, decode_of, encode_of, encoded_size_of}
use Rattle.base64.specs.Rfc4648.{encode_symbols, padding_len}
use Rattle.base64.specs.Decode.{IsDecodeTable, decode_outcome, decode_group, group_bytes, group_error}
use Rattle.base64.specs.Decode.{groups_before_last, groups_bytes, groups_error, lone_error, no_leftover}
use Rattle.base64.specs.Decode.{or_else, push_leftover, scan_last, scan_steps, suffix_bytes, symbol_error}
use Rattle.base64.specs.declared.decode.DecodeError.{DecodeError}
use Rattle.base64.specs.declared.engine.general_purpose.GeneralPurpose.{GeneralPurpose}
use Rattle.base64.proofs.Decoding.{IsLeftover, IsLeftover_next, scan-cons_err, scan-cons_ok}
use Rattle.base64.proofs.EngineFacts.{decode_of-encode_of, decode_of_strict}
use Rattle.base64.proofs.RoundTrip.{length-encode_symbols}
use Rattle.base64.proofs.Tables.{IsDecodeTable_from, are_tables_inverse}

-- The standard engine accepts what it writes.
pub is_consistent : IsConsistent standard
is_consistent = refl

-- The standard engine accepts nothing else.
pub is_strict : IsStrict standard
is_strict = (refl, refl)

-- An encoding is decoded to the same bytes.
pub base64_again : (bytes : List ℕ) → IsBytes bytes → decode_of standard (encode_of standard bytes) ≡ Ok bytes
base64_again bytes fits = decode_of-encode_of standard bytes is_consistent fits

-- A word that is decoded is the encoding of the result.
pub base64_found : (word bytes : List ℕ) → IsBytes word → decode_of standard word ≡ Ok bytes
    → word ≡ encode_of standard bytes
base64_found word bytes fits e = decode_of_strict standard word bytes is_strict fits e

-- The length of an encoding: the padding completes the last group of four.
pub length-encode_of : (bytes : List ℕ) → length (encode_of standard bytes) ≡ encoded_size_of standard (length bytes)
length-encode_of bytes =
    let symbols : List ℕ = encode_symbols standard.encode_table bytes in
    let padding : List ℕ = replicate (padding_len (length bytes)) 61 in
    omega (
      arith,
      length-append symbols padding,
      length-encode_symbols standard.encode_table bytes,
      length-replicate {A = ℕ} (padding_len (length bytes)) 61,
    )

-- ---- decoding yields bytes

-- if the first of two errors is none, both are
or_else_none : (x y : Option DecodeError) → or_else x y ≡ None → (x ≡ None) × (y ≡ None)
or_else_none None y e = (refl, e)
or_else_none (Some x) y e = absurd cc

-- a byte without an error has a value below 64
symbol_below : (dec s : List ℕ) (i : ℕ) → IsDecodeTable dec → IsBytes s → symbol_error dec s i ≡ None
    → slice_index dec (slice_index s i) < 64
symbol_below dec s i table fits none = elim (table (slice_index s i) (fits i)) [
  | inl bad ↦ absurd (cc (rw bad at none))
  | inr below ↦ below
]

-- four values below 64 make three bytes
IsBytes-decode_group : (a b c d : ℕ) → a < 64 → b < 64 → c < 64 → d < 64 → IsBytes (decode_group a b c d)
IsBytes-decode_group a b c d a< b< c< d< zero = omega arith
IsBytes-decode_group a b c d a< b< c< d< (suc zero) = omega arith
IsBytes-decode_group a b c d a< b< c< d< (suc (suc zero)) = omega arith
IsBytes-decode_group a b c d a< b< c< d< (suc (suc (suc i))) = omega arith

-- the groups before the last decode to bytes
IsBytes-groups_bytes : (dec s : List ℕ) (q : ℕ) → IsDecodeTable dec → IsBytes s → groups_error dec s q ≡ None
    → IsBytes (groups_bytes dec s q)
unfolding groups_error groups_bytes
IsBytes-groups_bytes dec s zero table fits none = λ i. omega arith
IsBytes-groups_bytes dec s (suc q) table fits none =
    let i : ℕ = 4 * q in
    let parts = or_else_none (groups_error dec s q) (group_error dec s i) none in
    let first = or_else_none (symbol_error dec s i) _ parts.1 in
    let second = or_else_none (symbol_error dec s (i + 1)) _ first.1 in
    let third = or_else_none (symbol_error dec s (i + 2)) _ second.1 in
    let a = symbol_below dec s i table fits first.0 in
    let b = symbol_below dec s (i + 1) table fits second.0 in
    let c = symbol_below dec s (i + 2) table fits third.0 in
    let d = symbol_below dec s (i + 3) table fits third.1 in
    IsBytes-append (groups_bytes dec s q) (group_bytes dec s i) (IsBytes-groups_bytes dec s q table fits parts.0)
    (IsBytes-decode_group _ _ _ _ a b c d)

abbrev pub type_of : {A : Type 0} → A → Type 0
type_of {A} x = A

-- the state of the scan of the last group, whose type has no public name
abbrev pub Leftover : Type 0
Leftover = type_of no_leftover

-- a scan succeeded, or it found an error
result_cases : (r : Result Leftover DecodeError) → ((st : Leftover) × (r ≡ Ok st)) ⊎ ((e : DecodeError) × (r ≡ Err e))
result_cases (Ok st) = inl (st, refl)
result_cases (Err e) = inr (e, refl)

-- in the scan of the last group, values stay below 64
IsLeftover-scan_steps : (dec : List ℕ) (pad at : ℕ) (bs : List ℕ) (i : ℕ) (st last : Leftover) → IsDecodeTable dec
    → IsBytes bs → IsLeftover st i → scan_steps dec pad at (Ok st) i bs ≡ Ok last → (k : ℕ)
    → slice_index last.morsels k < 64
unfolding scan_steps
IsLeftover-scan_steps dec pad at [] i st last table fits held e =
    λ k. let same : st ≡ last = cc in rw (← same) (held.3 k)
IsLeftover-scan_steps dec pad at (b ∷ bs) i st last table fits held e =
    elim (result_cases (push_leftover dec pad at st i b)) [
      | inl ok ↦
          let next = IsLeftover_next dec pad at st i b ok.0 table held (fits 0) ok.1 in
          let others : IsBytes bs = λ k. fits (suc k) in
          let goes_on = sym (scan-cons_ok dec pad at st i b bs ok.0 ok.1) ∙ e in
          IsLeftover-scan_steps dec pad at bs (i + 1) ok.0 last table others next goes_on
      | inr bad ↦ absurd (cc (sym (scan-cons_err dec pad at st i b bs bad.0 bad.1) ∙ e))
    ]

-- before the scan the values are 0
none_below : (k : ℕ) → slice_index no_leftover.morsels k < 64
none_below zero = omega arith
none_below (suc zero) = omega arith
none_below (suc (suc zero)) = omega arith
none_below (suc (suc (suc zero))) = omega arith
none_below (suc (suc (suc (suc k)))) = omega arith

-- the last group decodes to bytes
IsBytes-suffix_bytes : (dec s : List ℕ) (pad at : ℕ) → IsDecodeTable dec → IsBytes s
    → IsBytes (suffix_bytes dec pad at s)
IsBytes-suffix_bytes dec s pad at table fits = elim (result_cases (scan_last dec pad at s)) [
  | inl ok ↦
      let st : Leftover = ok.0 in
      let start : IsLeftover no_leftover 0 = (omega arith, omega arith, omega arith, none_below) in
      let below =
      IsLeftover-scan_steps dec pad at (drop at s) 0 no_leftover st table (IsBytes-drop at s fits) start ok.1 in
      let group = IsBytes-decode_group _ _ _ _ (below 0) (below 1) (below 2) (below 3) in
      rw ok.1 (IsBytes-take (st.morsels_count * 6 / 8) _ group)
  | inr bad ↦ rw bad.1 (λ i. omega arith)
]

-- a successful decoding has no error
outcome_ok : (x : Option DecodeError) (d b : List ℕ) → decode_outcome x d ≡ Ok b → (x ≡ None) × (d ≡ b)
outcome_ok None d b e = (refl, cc)
outcome_ok (Some x) d b e = absurd cc

-- An engine decodes bytes to bytes.
pub IsBytes-decode_of : (engine : GeneralPurpose) (s b : List ℕ) → IsBytes s → decode_of engine s ≡ Ok b → IsBytes b
IsBytes-decode_of engine s b fits e =
    let dec = engine.decode_table in
    let pad = engine.padding.value in
    let q : ℕ = groups_before_last (length s) in
    let inverse = are_tables_inverse engine.encode_table dec pad engine.tables in
    let table = IsDecodeTable_from engine.encode_table dec inverse in
    let parts = outcome_ok _ _ b e in
    let behind_lone = or_else_none (lone_error dec pad s) _ parts.0 in
    let groups = or_else_none (groups_error dec s q) _ behind_lone.1 in
    let front = IsBytes-groups_bytes dec s q table fits groups.0 in
    let back = IsBytes-suffix_bytes dec s pad (4 * q) table fits in
    subst IsBytes parts.1 (IsBytes-append (groups_bytes dec s q) (suffix_bytes dec pad (4 * q) s) front back)

-- ---- a byte that no element equals

-- a byte other than 0 that no element equals isn't found at any index, even past the end
pub free_at : (c : ℕ) (xs : List ℕ) (i : ℕ) → eqb 0 c ≡ false → list_all (λ x. not (eqb x c)) xs ≡ true
    → eqb (get_or xs i 0) c ≡ false
free_at c [] i zero_free e = zero_free
free_at c (x ∷ xs) zero zero_free e = not-true _ (and_parts _ _ e).0
free_at c (x ∷ xs) (suc i) zero_free e = free_at c xs i zero_free (and_parts _ _ e).1

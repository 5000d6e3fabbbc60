-- The texts of networks.
use Rattle.std.proofs.Common.{◌≡◌, ◌<◌, ◌+◌, ◌*◌, ℕ, List, [], ◌∷◌, ◌++◌, length, true, ◌==◌, decimal, Some}
use Rattle.std.proofs.Common.{None, arith, ap, sym, ◌∙◌, refl, append_assoc, map, cond, inl, inr, subst}
use Rattle.std.specs.Int.{from_be_bytes, w32}
use Rattle.std.specs.List.{list_all, slice_split, join_with_byte}
use Rattle.std.specs.Net.Grammar.{IsDotted}
use Rattle.std.specs.Net.Text.{dotted_text}
use Rattle.std.specs.Str.Parse.{digits_value}
use Rattle.std.proofs.lemmas.Bool.{and_parts, eqb-true, cases_Bool, cond-true, cond-false}
use Rattle.std.proofs.lemmas.Fmt.{digits_value-decimal}
use Rattle.std.proofs.lemmas.List.Splits.{slice_split_at, slice_split_none, join_with_byte-slice_split}
use Rattle.values.proofs.DecimalLemmas.{own, below_decimal, decimal_below, value_below}
use Rattle.values.proofs.Lacking.{Lacks, decimal_lacks}
use Rattle.values.specs.Decimals.{is_number_below}
use Rattle.values.specs.Networks.{are_octets, octets_value, address_of}

regroup : (dot : ℕ) (a b c d : List ℕ)
    → a ++ (dot ∷ []) ++ b ++ (dot ∷ []) ++ c ++ (dot ∷ []) ++ d ≡ a ++ (dot ∷ (b ++ (dot ∷ (c ++ (dot ∷ d)))))
regroup dot a b c d = simp append_assoc

-- four texts without dots, joined by dots, are split into the four
four_parts : (a b c d : List ℕ) → Lacks 46 a → Lacks 46 b → Lacks 46 c → Lacks 46 d
    → slice_split (λ x. x == 46) (a ++ (46 ∷ (b ++ (46 ∷ (c ++ (46 ∷ d)))))) ≡ a ∷ b ∷ c ∷ d ∷ []
four_parts a b c d la lb lc ld =
    slice_split_at (λ x. x == 46) a 46 _ la refl
    ∙ ap (λ rest. a ∷ rest) (slice_split_at (λ x. x == 46) b 46 _ lb refl
    ∙ ap (λ rest. b ∷ rest) (slice_split_at (λ x. x == 46) c 46 _ lc refl
    ∙ ap (λ rest. c ∷ rest) (slice_split_none (λ x. x == 46) d ld)))

-- the text of an address is split into its numbers
pub split-dotted_text : (a b c d : ℕ) → a < 256 → b < 256 → c < 256 → d < 256
    → slice_split (λ x. x == 46) (dotted_text a b c d) ≡ decimal a ∷ decimal b ∷ decimal c ∷ decimal d ∷ []
split-dotted_text a b c d la lb lc ld =
    ap (slice_split (λ x. x == 46)) (regroup 46 (decimal a) (decimal b) (decimal c) (decimal d))
    ∙ four_parts (decimal a) (decimal b) (decimal c) (decimal d) (decimal_lacks 46 a refl (omega arith))
    (decimal_lacks 46 b refl (omega arith)) (decimal_lacks 46 c refl (omega arith))
    (decimal_lacks 46 d refl (omega arith))

-- the decimal texts of four numbers below 256 pass the test for octets
pub octets_decimal : (a b c d : ℕ) → a < 256 → b < 256 → c < 256 → d < 256
    → are_octets (decimal a ∷ decimal b ∷ decimal c ∷ decimal d ∷ []) ≡ true
octets_decimal a b c d la lb lc ld =
    simp (
      below_decimal 256 a (omega arith) la,
      below_decimal 256 b (omega arith) lb,
      below_decimal 256 c (omega arith) lc,
      below_decimal 256 d (omega arith) ld,
    )

pub value_decimal : (a b c d : ℕ) → a < 256 → b < 256 → c < 256 → d < 256
    → octets_value (decimal a ∷ decimal b ∷ decimal c ∷ decimal d ∷ []) ≡ ((a * 256 + b) * 256 + c) * 256 + d
value_decimal a b c d la lb lc ld =
    simp (
      digits_value-decimal own a (omega arith),
      digits_value-decimal own b (omega arith),
      digits_value-decimal own c (omega arith),
      digits_value-decimal own d (omega arith),
    ) (omega arith)

big_endian : (a b c d : ℕ) → from_be_bytes w32 (a ∷ b ∷ c ∷ d ∷ []) ≡ ((a * 256 + b) * 256 + c) * 256 + d
big_endian a b c d = omega arith

-- the address of four octets is read from its text
pub address_of-dotted_text : (a b c d : ℕ) → a < 256 → b < 256 → c < 256 → d < 256
    → address_of (dotted_text a b c d) ≡ Some (((a * 256 + b) * 256 + c) * 256 + d)
address_of-dotted_text a b c d la lb lc ld =
    let parts = decimal a ∷ decimal b ∷ decimal c ∷ decimal d ∷ [] in
    ap (λ o. cond (are_octets o) (Some (octets_value o)) None) (split-dotted_text a b c d la lb lc ld)
    ∙ cond-true (are_octets parts) _ _ (octets_decimal a b c d la lb lc ld)
    ∙ ap Some (value_decimal a b c d la lb lc ld)

-- the address in a dotted text is that of its octets
pub address_of-dotted : (t octets : List ℕ) → IsDotted t octets → address_of t ≡ Some (from_be_bytes w32 octets)
address_of-dotted t octets w =
    ap address_of w.spelled
    ∙ address_of-dotted_text w.a w.b w.c w.d w.fit.0 w.fit.1 w.fit.2 w.fit.3
    ∙ ap Some (sym (big_endian w.a w.b w.c w.d) ∙ ap (from_be_bytes w32) (sym w.value))

-- four octets with dots between them are a dotted text
pub octets_dotted : (texts : List (List ℕ)) → are_octets texts ≡ true
    → IsDotted (join_with_byte 46 texts) (map (digits_value 10) texts)
octets_dotted (a ∷ b ∷ c ∷ d ∷ []) h =
    let p = and_parts (is_number_below 256 a) (list_all (is_number_below 256) (b ∷ c ∷ d ∷ [])) h in
    let q = and_parts (is_number_below 256 b) (list_all (is_number_below 256) (c ∷ d ∷ [])) p.1 in
    let r = and_parts (is_number_below 256 c) (list_all (is_number_below 256) (d ∷ [])) q.1 in
    let s = and_parts (is_number_below 256 d) true r.1 in
    let ea = decimal_below 256 a (omega arith) p.0 in
    let eb = decimal_below 256 b (omega arith) q.0 in
    let ec = decimal_below 256 c (omega arith) r.0 in
    let ed = decimal_below 256 d (omega arith) s.0 in
    record {
      a = digits_value 10 a;
      b = digits_value 10 b;
      c = digits_value 10 c;
      d = digits_value 10 d;
      fit = (value_below 256 a p.0, value_below 256 b q.0, value_below 256 c r.0, value_below 256 d s.0);
      value = refl;
      spelled = simp (ea, eb, ec, ed) (sym (regroup 46 a b c d));
    }
octets_dotted texts h =
    let size = (and_parts (length texts == 4) (list_all (is_number_below 256) texts) h).0 in
    absurd (omega (arith, eqb-true (length texts) 4 size))

-- a text that is not dotted has no address
pub address_of-none : (t : List ℕ) → ((octets : List ℕ) → ¬ (IsDotted t octets)) → address_of t ≡ None
address_of-none t refuted = elim (cases_Bool (are_octets (slice_split (λ x. x == 46) t))) [
  | inl octets ↦ absurd (refuted _
      (subst (λ (x : List ℕ). IsDotted x (map (digits_value 10) (slice_split (λ x. x == 46) t)))
      (join_with_byte-slice_split 46 t) (octets_dotted (slice_split (λ x. x == 46) t) octets)))
  | inr off ↦ cond-false (are_octets (slice_split (λ x. x == 46) t)) _ _ off
]

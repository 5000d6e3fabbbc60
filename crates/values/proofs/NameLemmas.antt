-- Rules and key IDs, in terms of their texts.
use Rattle.std.proofs.Common.{false, ◌≡◌, ◌<◌, ◌-◌, inl, inr, ℕ, List, [], ◌∷◌, ◌++◌, length}
use Rattle.std.proofs.Common.{take, drop, true, ◌&&◌, ◌||◌, not, ◌==◌, nat_lt, arith, ap, sym}
use Rattle.std.proofs.Common.{◌∙◌, refl, subst, length-append, length-take, take-append-drop}
use Rattle.std.specs.List.{list_all, prefix_len}
use Rattle.std.specs.Str.{bytes_eq}
use Rattle.std.proofs.lemmas.Bool.{and_parts, and_from, or_cases, or_left, or_right, eqb-true, ltb-true, lt-ltb}
use Rattle.std.proofs.lemmas.List.Folds.{length-prefix_len}
use Rattle.std.proofs.lemmas.Slice.Eq.{bytes_eq-Decides}
use Rattle.std.proofs.Math.Seq.{drop-append_seam}
use Rattle.values.proofs.Lacking.{Lacks, lacks_from, before_first-append}
use Rattle.values.specs.Laws.{Meets, MeetsSuffix, IsKeyId}
use Rattle.values.specs.Names.{has_size, is_name, is_name_byte, meets_suffix, ends_longer}
use Rattle.values.specs.Names.{department_of, is_key_id, is_key_id_end, is_key_id_byte}

ends_longer_found : (t suffix : List ℕ) → ends_longer t suffix ≡ true → MeetsSuffix t (42 ∷ suffix)
ends_longer_found t suffix h =
    let p = and_parts (nat_lt (length suffix) (length t)) (bytes_eq (drop (length t - length suffix) t) suffix) h in
    let longer = ltb-true (length suffix) (length t) p.0 in
    let ends = (bytes_eq-Decides (drop (length t - length suffix) t) suffix).0 p.1 in
    record {
      front = take (length t - length suffix) t;
      suffix = suffix;
      starred = refl;
      spelled = sym (take-append-drop (length t - length suffix) t)
          ∙ ap (λ end. take (length t - length suffix) t ++ end) ends;
      longer = omega (arith, length-take (length t - length suffix) t);
    }

ends_longer_from : (front suffix : List ℕ) → 0 < length front → ends_longer (front ++ suffix) suffix ≡ true
ends_longer_from front suffix some =
    let size = length-append front suffix in
    let place : length (front ++ suffix) - length suffix ≡ length front = omega (arith, size) in
    and_from (nat_lt (length suffix) (length (front ++ suffix)))
    (bytes_eq (drop (length (front ++ suffix) - length suffix) (front ++ suffix)) suffix)
    (lt-ltb _ _ (omega (arith, size)))
    ((bytes_eq-Decides _ suffix).1 (ap (λ n. drop n (front ++ suffix)) place ∙ drop-append_seam front suffix))

meets_suffix_found : (principal rule : List ℕ) → meets_suffix principal rule ≡ true → MeetsSuffix principal rule
meets_suffix_found principal [] h = cc
meets_suffix_found principal (b ∷ suffix) h =
    let p = and_parts (b == 42) (ends_longer principal suffix) h in
    subst (λ (c : ℕ). MeetsSuffix principal (c ∷ suffix)) (sym (eqb-true b 42 p.0))
    (ends_longer_found principal suffix p.1)

meets_suffix_from : (principal rule : List ℕ) → MeetsSuffix principal rule → meets_suffix principal rule ≡ true
meets_suffix_from principal rule m =
    ap (meets_suffix principal) m.starred
    ∙ ap (λ t. ends_longer t m.suffix) m.spelled
    ∙ ends_longer_from m.front m.suffix m.longer

-- a principal meets a rule without {name} exactly when it is the rule, or is longer than the rule's suffix and ends
-- with it
pub plain_found : (principal rule : List ℕ) → (bytes_eq principal rule || meets_suffix principal rule) ≡ true
    → Meets principal rule
plain_found principal rule h = elim (or_cases (bytes_eq principal rule) (meets_suffix principal rule) h) [
  | inl same ↦ inl ((bytes_eq-Decides principal rule).0 same)
  | inr ends ↦ inr (meets_suffix_found principal rule ends)
]

pub plain_from : (principal rule : List ℕ) → Meets principal rule
    → (bytes_eq principal rule || meets_suffix principal rule) ≡ true
plain_from principal rule (inl same) =
    or_left (bytes_eq principal rule) (meets_suffix principal rule) ((bytes_eq-Decides principal rule).1 same)
plain_from principal rule (inr m) =
    or_right (bytes_eq principal rule) (meets_suffix principal rule) (meets_suffix_from principal rule m)

-- the rest after the department in a key ID
record IsEnd (t : List ℕ) : Type 0 where
  rest : List ℕ
  slashed : t ≡ 47 ∷ rest
  sized : has_size 1 64 rest ≡ true
  printable : list_all is_key_id_byte rest ≡ true

end_found : (t : List ℕ) → is_key_id_end t ≡ true → IsEnd t
end_found [] h = cc
end_found (b ∷ rest) h =
    let p = and_parts (b == 47) (has_size 1 64 rest && list_all is_key_id_byte rest) h in
    let q = and_parts (has_size 1 64 rest) (list_all is_key_id_byte rest) p.1 in
    record { rest = rest; slashed = ap (λ c. c ∷ rest) (eqb-true b 47 p.0); sized = q.0; printable = q.1 }

-- a text is its department followed by the rest
pub department_cut : (t : List ℕ) → t ≡ department_of t ++ drop (length (department_of t)) t
department_cut t =
    let n = prefix_len (λ b. not (b == 47)) t in
    sym (take-append-drop n t) ∙ ap (λ k. take n t ++ drop k t) (sym (length-prefix_len (λ b. not (b == 47)) t))

-- a key ID is the name of its department, / and the rest
pub key_id_found : (t : List ℕ) → is_key_id t ≡ true → IsKeyId t (department_of t)
key_id_found t h =
    let p = and_parts (is_name (department_of t)) (is_key_id_end (drop (length (department_of t)) t)) h in
    let e = end_found (drop (length (department_of t)) t) p.1 in
    record {
      rest = e.rest;
      spelled = department_cut t ∙ ap (λ end. department_of t ++ end) e.slashed;
      named = p.0;
      sized = e.sized;
      printable = e.printable;
    }

-- a name lacks each byte outside its alphabet
pub name_lacks : (byte : ℕ) (t : List ℕ) → is_name_byte byte ≡ false → is_name t ≡ true → Lacks byte t
name_lacks byte t off h = lacks_from is_name_byte byte t off (and_parts (has_size 1 32 t) (list_all is_name_byte t) h).1

-- the department of a name, / and anything is the name
pub department_of-append : (department rest : List ℕ) → is_name department ≡ true
    → department_of (department ++ (47 ∷ rest)) ≡ department
department_of-append department rest named = before_first-append 47 department rest (name_lacks 47 department refl named)

pub key_id_from : (t department : List ℕ) → IsKeyId t department → (is_key_id t ≡ true) × (department_of t ≡ department)
key_id_from t department k =
    let front : department_of t ≡ department =
    ap department_of k.spelled ∙ department_of-append department k.rest k.named in
    let rest : drop (length (department_of t)) t ≡ 47 ∷ k.rest =
    ap (λ d. drop (length d) t) front ∙ ap (drop (length department)) k.spelled
    ∙ drop-append_seam department (47 ∷ k.rest) in (
      and_from (is_name (department_of t)) (is_key_id_end (drop (length (department_of t)) t))
          (ap is_name front ∙ k.named)
          (ap is_key_id_end rest
          ∙ and_from (has_size 1 64 k.rest) (list_all is_key_id_byte k.rest) k.sized k.printable),
      front,
    )

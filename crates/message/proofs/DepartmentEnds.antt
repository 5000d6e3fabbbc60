-- What stands in a department's text after its options.
use Rattle.message.proofs.Words.{Bool, Err, List, None, Ok, Option, Pair, Result, Some, [], User, and_from, and_parts, ap}
use Rattle.message.proofs.Words.{are_extension_names, are_namespaces, arith, codes, cond, decimal, drop, ends_after, false}
use Rattle.message.proofs.Words.{inl, inr, is_longest_life, le-leb, leb-true, length, line, line_of, list_line, made, map}
use Rattle.message.proofs.Words.{number_after, or_fault, refl, subst, suc, sym, true, zero, ℕ, ◌&&◌, ◌++◌, ◌+◌, ◌>>=◌}
use Rattle.message.proofs.Words.{◌∙◌, ◌∷◌, ◌≡◌, ◌⊎◌}
use Rattle.values.specs.declared.kind.Kind.{Kind}
use Rattle.values.specs.declared.kind.Kind.TheVariants.{Host}
use Rattle.message.specs.Ends.{Ends}
use Rattle.message.specs.Texts.{demand_line, end_lines, key_types_lines, limit_lines}
use Rattle.message.specs.Values.{are_demands, are_key_types, are_key_types_or_none, fits_bare_name, fits_kind}
use Rattle.message.specs.Reading.{demand_after, demands_from, ends_in, is_new_demand, key_types_after, limits_in}
use Rattle.message.specs.Reading.{lines_read, list_after, listed, pairs_from}
use Rattle.message.proofs.Readings.{IsField, IsReading, read_as, same_values}
use Rattle.message.proofs.Choices.{line_or, line_then}
use Rattle.message.proofs.Ends.{then_end}
use Rattle.message.proofs.Fields.{list_field}
use Rattle.message.proofs.Elements.{extension_names_lack, key_types_lack, namespaces_lack}
use Rattle.message.proofs.Numbers.{number_field, longest_life_small}
use Rattle.message.proofs.Demands.{demand_field, demands_are_new, new_are_demands}
use Rattle.message.proofs.PairLines as pair_lines

abbrev Limits : Type 0
Limits = ℕ × List (List ℕ)

-- the line of key types
pub key_types_field : IsField key_types_after (λ ts. list_line (codes "key-types") ts) (λ ts. are_key_types ts ≡ true)
key_types_field = list_field (codes "key-types") are_key_types refl refl key_types_lack

module _ (kind : Kind) (bare : Bool) where
  none_fits : (kind : Kind) → fits_kind kind [] ≡ true
  none_fits User = refl
  none_fits Host = refl

  none_bare : (bare : Bool) → fits_bare_name bare [] ≡ true
  none_bare false = refl
  none_bare true = refl

  -- the namespaces are valid beside this kind and these rules
  abbrev are_fitting : List (List ℕ) → Bool
  are_fitting ts = are_namespaces ts && (fits_kind kind ts && fits_bare_name bare ts)

  -- ---- the longest lifetime and the namespaces

  abbrev IsLimits : Limits → Type 0
  IsLimits l = (is_longest_life l.0 ≡ true) × (are_fitting l.1 ≡ true)

  abbrev lines_of : Limits → List (List ℕ)
  lines_of l = limit_lines l.0 l.1

  -- read from lines a and b on; c is the number of the line after them
  abbrev limits_at : ℕ → ℕ → ℕ → List (List ℕ) → Result Limits ℕ
  limits_at a b c ps =
      or_fault a (number_after is_longest_life (codes "maxlife ") (line_of a ps)) >>= (λ life.
      or_fault b (list_after are_fitting (codes "namespaces") (line_of b ps)) >>=
      (λ namespaces. cond (ends_after b ps) (Ok (life, namespaces)) (Err c)))

  limits_then : (k : ℕ) → IsReading k (limits_at (suc k) (suc (suc k)) (suc (suc (suc k)))) IsLimits lines_of
  limits_then k =
      same_values
      (line_then k _ _ _ (λ l. l.0) _ _ _
      (number_field is_longest_life (codes "maxlife ") refl refl longest_life_small) 1 refl
      (λ life _. line_then (suc k) _ _ _ (λ l. l.1) _ _ _
      (list_field (codes "namespaces") are_fitting refl refl (λ ts is. namespaces_lack ts (and_parts _ _ is).0)) []
      (and_from (fits_kind kind []) _ (none_fits kind) (none_bare bare))
      (λ namespaces _. then_end (suc (suc k)) (life, namespaces))
      (λ x l e. ap (λ (l : Limits). l.1) e)) (λ x l p. ap (λ (l : Limits). l.0) p.1))
      (λ l is. (is.0, is.1.0)) (λ l is. (is.0, (is.1, refl)))

  limits_read : (k m : ℕ) → m ≡ suc k → IsReading k (limits_in kind bare m) IsLimits lines_of
  unfolding limits_in
  limits_read k m e =
      let b : suc (suc k) ≡ m + 1 = omega arith in
      let c : suc (suc (suc k)) ≡ m + 2 = omega arith in
      subst (λ (n : ℕ). IsReading k (limits_at m (m + 1) n) IsLimits lines_of) c
      (subst (λ (n : ℕ). IsReading k (limits_at m n (suc (suc (suc k)))) IsLimits lines_of) b
      (subst (λ (n : ℕ). IsReading k (limits_at n (suc (suc k)) (suc (suc (suc k)))) IsLimits lines_of) (sym e)
      (limits_then k)))

  -- ---- the key types, if they are listed

  abbrev whole : List Pair → List (List ℕ) → List (List ℕ) → Limits → Ends
  whole demands extensions key_types limits = ((demands, extensions), (key_types, limits))

  module _ (demands : List Pair) (extensions : List (List ℕ)) where
    -- with these key types
    abbrev IsWith : List (List ℕ) → Ends → Type 0
    IsWith ts e = IsLimits e.1.1 × (e ≡ whole demands extensions ts e.1.1)

    -- with any key types, or none
    abbrev IsTyped : Ends → Type 0
    IsTyped e = (are_key_types_or_none e.1.0 ≡ true) × IsWith e.1.0 e

    abbrev typed_lines : Ends → List (List ℕ)
    typed_lines e = key_types_lines e.1.0 ++ lines_of e.1.1

    abbrev step : ℕ → Option (List (List ℕ)) → List (List ℕ) → Result Ends ℕ
    step n o ps = made (λ limits. whole demands extensions (listed o) limits) (limits_in kind bare (n + lines_read o) ps)

    with_reads : (k m : ℕ) (ts : List (List ℕ)) → m ≡ suc k
        → IsReading k (λ ps. made (λ limits. whole demands extensions ts limits) (limits_in kind bare m ps)) (IsWith ts)
        (λ e. lines_of e.1.1)
    with_reads k m ts e =
        read_as k (λ limits. whole demands extensions ts limits) (limits_in kind bare m) IsLimits lines_of (IsWith ts)
        (λ e. lines_of e.1.1) (λ l is. ((is, refl), refl)) (λ e is. (e.1.1, is.1, is.0)) (limits_read k m e)

    same_types : (ts : List (List ℕ)) (e : Ends) → IsWith ts e → e.1.0 ≡ ts
    same_types ts e is = ap (λ (e : Ends). e.1.0) is.1

    typed : (ts : List (List ℕ)) (e : Ends) → are_key_types_or_none ts ≡ true → IsWith ts e
        → IsTyped e × (typed_lines e ≡ key_types_lines ts ++ lines_of e.1.1)
    typed ts e lawful is =
        let same = same_types ts e is in (
          subst (λ (us : List (List ℕ)). (are_key_types_or_none us ≡ true) × IsWith us e) (sym same) (lawful, is),
          ap (λ (us : List (List ℕ)). key_types_lines us ++ lines_of e.1.1) same,
        )

    more_typed : (ts : List (List ℕ)) (e : Ends) → are_key_types ts ≡ true → IsWith ts e
        → IsTyped e × (typed_lines e ≡ list_line (codes "key-types") ts ∷ lines_of e.1.1)
    more_typed [] e lawful is = absurd cc
    more_typed (t ∷ ts) e lawful is = typed (t ∷ ts) e lawful is

    cases : (ts : List (List ℕ)) (e : Ends) → are_key_types_or_none ts ≡ true → IsWith ts e
        → IsWith [] e ⊎ ((us : List (List ℕ)) × (are_key_types us ≡ true) × IsWith us e)
    cases [] e lawful is = inl is
    cases (t ∷ ts) e lawful is = inr (t ∷ ts, lawful, is)

    -- the line of the longest lifetime isn't one of key types
    stops : (e : Ends) → (l : List ℕ) × (ls : List (List ℕ)) × (lines_of e.1.1 ≡ l ∷ ls) × (key_types_after l ≡ None)
    stops e = (line (codes "maxlife") (decimal e.1.1.0), list_line (codes "namespaces") e.1.1.1 ∷ [], refl, refl)

    typed_reads : (k n : ℕ) → n ≡ suc k
        → IsReading k (λ ps. step n (key_types_after (line_of (suc k) ps)) ps) IsTyped typed_lines
    typed_reads k n e =
        line_or k key_types_after (λ ts. list_line (codes "key-types") ts) (λ ts. are_key_types ts ≡ true) (step n)
        (IsWith []) IsWith (λ e. lines_of e.1.1) (λ _ e. lines_of e.1.1) IsTyped typed_lines
        key_types_field
        (with_reads k (n + 0) [] (omega arith))
        (λ ts lawful. with_reads (suc k) (n + 1) ts (omega arith))
        (λ e is. typed [] e refl is) more_typed (λ e is. cases e.1.0 e is.0 is.1) (λ e is. stops e)

  -- ---- the extensions

  abbrev IsStop : List Pair → Ends → Type 0
  IsStop demands e =
      ((are_extension_names e.0.1 && fits_kind kind e.0.1) ≡ true) × IsTyped demands e.0.1 e

  abbrev last_lines : Ends → List (List ℕ)
  last_lines e = list_line (codes "extensions") e.0.1 ∷ (key_types_lines e.1.0 ++ lines_of e.1.1)

  -- from line n on, with the key types, if there are any, on line m
  abbrev tail_at : ℕ → ℕ → List Pair → List (List ℕ) → Result Ends ℕ
  tail_at n m demands ps =
      or_fault n (list_after (λ ts. are_extension_names ts && fits_kind kind ts) (codes "extensions") (line_of n ps)) >>=
      (λ extensions. step demands extensions m (key_types_after (line_of m ps)) ps)

  abbrev tail : List Pair → List (List ℕ) → Result Ends ℕ
  tail demands ps = tail_at (6 + length demands) (6 + length demands + 1) demands ps

  stop_from : (k : ℕ) (demands : List Pair)
      → IsReading k (tail_at (suc k) (suc (suc k)) demands) (IsStop demands) last_lines
  stop_from k demands =
      line_then k _ _ _ (λ e. e.0.1) _ _ _
      (list_field (codes "extensions") (λ ts. are_extension_names ts && fits_kind kind ts)
      refl refl (λ ts is. extension_names_lack ts (and_parts _ _ is).0)) [] (none_fits kind)
      (λ extensions _. typed_reads demands extensions (suc k) (suc (suc k)) refl)
      (λ x e p. ap (λ (e : Ends). e.0.1) p.1.1)

  stop_reads : (k : ℕ) (demands : List Pair) → k ≡ 5 + length demands
      → IsReading k (tail demands) (IsStop demands) last_lines
  stop_reads k demands e =
      let here : suc k ≡ 6 + length demands = omega arith in
      let next : suc (suc k) ≡ 6 + length demands + 1 = omega arith in
      subst (λ (m : ℕ). IsReading k (tail_at (6 + length demands) m demands) (IsStop demands) last_lines) next
      (subst (λ (n : ℕ). IsReading k (tail_at n (suc (suc k)) demands) (IsStop demands) last_lines) here
      (stop_from k demands))

  -- ---- the options that certificates must have

  same_demands : (demands : List Pair) (e : Ends) → IsStop demands e → e.0.0 ≡ demands
  same_demands demands e is = ap (λ (e : Ends). e.0.0) is.1.1.1

  -- the line of extensions isn't one of an option
  ends_there : (demands : List Pair) (e : Ends) → IsStop demands e
      → (l : List ℕ) × (ls : List (List ℕ)) × (last_lines e ≡ l ∷ ls) × (demand_after kind demands l ≡ None)
  ends_there demands e is =
      (list_line (codes "extensions") e.0.1, key_types_lines e.1.0 ++ lines_of e.1.1, refl, no_demand e.0.1)
    where
      no_demand : (ts : List (List ℕ)) → demand_after kind demands (list_line (codes "extensions") ts) ≡ None
      no_demand [] = refl
      no_demand (t ∷ ts) = refl

  abbrev IsAfter : Ends → Type 0
  IsAfter =
      pair_lines.IsAfter 5 (demand_after kind) demand_line (is_new_demand kind) (λ e. e.0.0) tail IsStop last_lines
      (demand_field kind) stop_reads same_demands ends_there 3 []

  after_reads : IsReading 5 (ends_in kind bare) IsAfter end_lines
  unfolding ends_in
  after_reads =
      pair_lines.pairs_read 5 (demand_after kind) demand_line (is_new_demand kind) (λ e. e.0.0) tail IsStop last_lines
      (demand_field kind) stop_reads same_demands ends_there 3 5 [] refl

  -- ---- all of it

  abbrev pub IsEnds : Ends → Type 0
  IsEnds e = (are_demands kind e.0.0 ≡ true) × (((are_extension_names e.0.1 && fits_kind kind e.0.1) ≡ true)
      × ((are_key_types_or_none e.1.0 ≡ true) × IsLimits e.1.1))

  -- the lines after a department's options are read exactly when they are of such values
  pub ends_read : IsReading 5 (ends_in kind bare) IsEnds end_lines
  ends_read = same_values after_reads to from
    where
      to : (e : Ends) → IsAfter e → IsEnds e
      to e is =
          let demands : are_demands kind e.0.0 ≡ true =
          subst (λ (ps : List Pair). are_demands kind ps ≡ true) (sym is.1)
          (and_from _ _ (le-leb _ _ is.2) (new_are_demands kind is.0 is.3)) in
          (demands, (is.4.0, (is.4.1.0, is.4.1.1.0)))

      from : (e : Ends) → IsEnds e → IsAfter e
      from e is =
          let demands = and_parts _ _ is.0 in (
            e.0.0,
            refl,
            leb-true _ _ demands.0,
            demands_are_new kind e.0.0 demands.1,
            (is.1.0, (is.1.1.0, (is.1.1.1, refl))),
          )

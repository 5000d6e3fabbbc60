-- Readings that branch on whether a line can be read; readings of a line, and then of the rest.
use Rattle.message.proofs.Words.{AllByRecursion, Err, List, None, Ok, Option, Result, Some, ap, arith, drop, inl, inr}
use Rattle.message.proofs.Words.{length, length-drop, line_of, none-some, or_fault, refl, same_Some, subst, suc, sym, ℕ}
use Rattle.message.proofs.Words.{◌<◌, ◌>>=◌, ◌∙◌, ◌∷◌, ◌≡◌, ◌⊎◌}
use Rattle.message.proofs.Lines.{ended, line_is, more_than_none, Shares, shares_more, shares_less, shares_none}
use Rattle.message.proofs.Readings.{IsField, IsLine, AreBytes, FirstFault, IsReading, error_at, fault_as, line_read}
use Rattle.message.proofs.Readings.{line_read_is_ended, none_shared, one_further}

-- ---- a line that continues a message, or else any outcome

module _ {M X : Type 0} (k : ℕ) (read : List ℕ → Option X) (text : X → List ℕ) (IsLawful : X → Type 0)
    (step : Option X → List (List ℕ) → Result M ℕ) (IsStop : M → Type 0) (IsMore : X → M → Type 0)
    (more_lines : X → M → List (List ℕ)) (Is : M → Type 0) (lines : M → List (List ℕ))
    (field : IsField read text IsLawful)
    (more_reads : (x : X) → IsLawful x → IsReading (suc k) (step (Some x)) (IsMore x) (more_lines x))
    (more_is : (x : X) (m : M) → IsLawful x → IsMore x m → Is m × (lines m ≡ text x ∷ more_lines x m))
    (cases : (m : M) → Is m → IsStop m ⊎ ((x : X) × IsLawful x × IsMore x m))
    (stops : (m : M) → IsStop m → (l : List ℕ) × (ls : List (List ℕ)) × (lines m ≡ l ∷ ls) × (read l ≡ None))
    (some : (m : M) × Is m)
    (stop_found : (ps : List (List ℕ)) (m : M) → AreBytes ps → step None ps ≡ Ok m
    → Is m × (drop k ps ≡ ended (lines m)))
    (stop_again : (ps : List (List ℕ)) (m : M) → IsStop m → drop k ps ≡ ended (lines m) → step None ps ≡ Ok m)
    (stop_fault : (ps : List (List ℕ)) (i : ℕ) → AreBytes ps → k < length ps → read (line_of (suc k) ps) ≡ None
    → step None ps ≡ Err i → FirstFault k Is lines ps i)
    (stop_lines : (m : M) → IsStop m → AllByRecursion IsLine (lines m)) where
  found_step : (ps : List (List ℕ)) (m : M) (o : Option X) → AreBytes ps → read (line_of (suc k) ps) ≡ o
      → step o ps ≡ Ok m → Is m × (drop k ps ≡ ended (lines m))
  found_step ps m None fits is e = stop_found ps m fits e
  found_step ps m (Some x) fits is e =
      let lawful = (field.found _ x (fits (suc k)) is).0 in
      let found = (more_reads x lawful).found ps m fits e in
      let said = more_is x m lawful found.0 in (
        said.0,
        line_read k read text IsLawful field ps x fits is ∙ ap (λ (ls : List (List ℕ)). text x ∷ ls) found.1
            ∙ ap ended (sym said.1),
      )

  again_all : (ps : List (List ℕ)) (m : M) → Is m → drop k ps ≡ ended (lines m)
      → step (read (line_of (suc k) ps)) ps ≡ Ok m
  again_all ps m is e = elim (cases m is) [
    | inl stopped ↦
        let first = stops m stopped in
        ap (λ (o : Option X). step o ps)
        (ap read (line_is k ps first.0 first.1 (lines m) first.2 e).0 ∙ first.3) ∙ stop_again ps m stopped e
    | inr going ↦
        let x = going.0 in
        let at = line_is k ps (text x) (more_lines x m) (lines m) (more_is x m going.1 going.2).1 e in
        ap (λ (o : Option X). step o ps) (ap read at.0 ∙ field.again x going.1)
        ∙ (more_reads x going.1).again ps m going.2 at.1
  ]

  -- if the first line continues a message, and no continuation shares the lines after it, no message shares all of them
  goes_on : (ps : List (List ℕ)) (j : ℕ) (m : M) (x : X) → read (line_of (suc k) ps) ≡ Some x
      → ((m : M) → IsMore x m → Shares (suc j) (drop (suc k) ps) (ended (more_lines x m)) → ⊥)
      → Is m → Shares (suc (suc j)) (drop k ps) (ended (lines m)) → ⊥
  goes_on ps j m x is none of shared = elim (cases m of) [
    | inl stopped ↦
        let first = stops m stopped in
        let same = (shares_less k (suc j) ps first.0 first.1 (lines m) first.2 shared).0 in
        none-some x (sym first.3 ∙ ap read (sym same) ∙ is)
    | inr going ↦
        let y = going.0 in
        let all = (more_is y m going.1 going.2).1 in
        let parts = shares_less k (suc j) ps (text y) (more_lines y m) (lines m) all shared in
        let same : y ≡ x = same_Some y x (sym (field.again y going.1) ∙ ap read (sym parts.0) ∙ is) in
        none m (subst (λ (z : X). IsMore z m) same going.2)
        (subst (λ (z : X). Shares (suc j) (drop (suc k) ps) (ended (more_lines z m))) same parts.1)
  ]

  fault_step : (ps : List (List ℕ)) (i : ℕ) (o : Option X) → AreBytes ps → k < length ps
      → read (line_of (suc k) ps) ≡ o → step o ps ≡ Err i → FirstFault k Is lines ps i
  fault_step ps i None fits inside is e = stop_fault ps i fits inside is e
  fault_step ps i (Some x) fits inside is e =
      let lawful = (field.found _ x (fits (suc k)) is).0 in
      let first = (more_reads x lawful).fault ps i fits (line_read_is_ended k read text IsLawful field ps x is) e in
      let j = first.count in
      let m = first.some.0 in
      let said = more_is x m lawful first.some.1 in
      let there = line_read k read text IsLawful field ps x fits is in record {
        count = suc j;
        at = one_further k i j first.at;
        some = (m, said.0, shares_more k j ps (text x) (more_lines x m) (lines m) said.1 there first.some.2);
        none = λ n of shared. goes_on ps j n x is first.none of shared;
      }

  lines_all : (m : M) → Is m → AllByRecursion IsLine (lines m)
  lines_all m is = elim (cases m is) [
    | inl stopped ↦ stop_lines m stopped
    | inr going ↦ subst (AllByRecursion IsLine) (sym (more_is going.0 m going.1 going.2).1)
        (field.is_line going.0 going.1, (more_reads going.0 going.1).are_lines m going.2)
  ]

  pub line_by : IsReading k (λ ps. step (read (line_of (suc k) ps)) ps) Is lines
  line_by = record {
    some = some;
    found = λ ps m fits e. found_step ps m (read (line_of (suc k) ps)) fits refl e;
    again = again_all;
    fault = λ ps i fits inside e. fault_step ps i (read (line_of (suc k) ps)) fits inside refl e;
    are_lines = lines_all;
  }

-- ---- a line that continues a message, or else another reading

module _ {M X : Type 0} (k : ℕ) (read : List ℕ → Option X) (text : X → List ℕ) (IsLawful : X → Type 0)
    (step : Option X → List (List ℕ) → Result M ℕ) (IsStop : M → Type 0) (IsMore : X → M → Type 0)
    (stop_lines : M → List (List ℕ)) (more_lines : X → M → List (List ℕ)) (Is : M → Type 0)
    (lines : M → List (List ℕ)) (field : IsField read text IsLawful)
    (stop_reads : IsReading k (step None) IsStop stop_lines)
    (more_reads : (x : X) → IsLawful x → IsReading (suc k) (step (Some x)) (IsMore x) (more_lines x))
    (stop_is : (m : M) → IsStop m → Is m × (lines m ≡ stop_lines m))
    (more_is : (x : X) (m : M) → IsLawful x → IsMore x m → Is m × (lines m ≡ text x ∷ more_lines x m))
    (cases : (m : M) → Is m → IsStop m ⊎ ((x : X) × IsLawful x × IsMore x m))
    (stops : (m : M) → IsStop m → (l : List ℕ) × (ls : List (List ℕ)) × (stop_lines m ≡ l ∷ ls) × (read l ≡ None))
  where
    -- a message that shares a line which can't be read is one that stops there
    stopped_or : (ps : List (List ℕ)) (j : ℕ) (m : M) → read (line_of (suc k) ps) ≡ None
        → IsStop m ⊎ ((x : X) × IsLawful x × IsMore x m) → Shares (suc j) (drop k ps) (ended (lines m))
        → (m' : M) × IsStop m' × (lines m ≡ stop_lines m')
    stopped_or ps j m is (inl stopped) shared = (m, stopped, (stop_is m stopped).1)
    stopped_or ps j m is (inr going) shared =
        absurd (none_shared k read text IsLawful field j ps going.0 (more_lines going.0 m) (lines m) is going.1
        (more_is going.0 m going.1 going.2).1 shared)

    pub line_or : IsReading k (λ ps. step (read (line_of (suc k) ps)) ps) Is lines
    line_or = line_by k read text IsLawful step IsStop IsMore more_lines Is lines field more_reads more_is cases
        (λ m stopped. let first = stops m stopped in
        (first.0, first.1, (stop_is m stopped).1 ∙ first.2, first.3))
        (let m = stop_reads.some in (m.0, (stop_is m.0 m.1).0))
        (λ ps m fits e. let is = stop_reads.found ps m fits e in
        ((stop_is m is.0).0, is.1 ∙ ap ended (sym (stop_is m is.0).1)))
        (λ ps m stopped e. stop_reads.again ps m stopped (e ∙ ap ended (stop_is m stopped).1))
        (λ ps i fits inside is e. fault_as (stop_reads.fault ps i fits inside e)
        (λ m stopped. (m, (stop_is m stopped).0, (stop_is m stopped).1))
        (λ j m of shared. stopped_or ps j m is (cases m of) shared))
        (λ m stopped. subst (AllByRecursion IsLine) (sym (stop_is m stopped).1) (stop_reads.are_lines m stopped))

-- ---- a line, and then the rest

module _ {M X : Type 0} (k : ℕ) (read : List ℕ → Option X) (text : X → List ℕ) (IsLawful : X → Type 0)
    (get : M → X) (rest : X → List (List ℕ) → Result M ℕ) (Is : X → M → Type 0) (lines : M → List (List ℕ))
    (field : IsField read text IsLawful) (first : X) (first_is : IsLawful first)
    (after : (x : X) → IsLawful x → IsReading (suc k) (rest x) (Is x) lines)
    (gets : (x : X) (m : M) → Is x m → get m ≡ x) where
  abbrev step : Option X → List (List ℕ) → Result M ℕ
  step o ps = or_fault (suc k) o >>= (λ x. rest x ps)

  abbrev Whole : M → Type 0
  Whole m = IsLawful (get m) × Is (get m) m

  abbrev all_lines : M → List (List ℕ)
  all_lines m = text (get m) ∷ lines m

  whole : (x : X) (m : M) → IsLawful x → Is x m → Whole m × (all_lines m ≡ text x ∷ lines m)
  whole x m lawful is = (
    subst (λ (y : X). IsLawful y × Is y m) (sym (gets x m is)) (lawful, is),
    ap (λ (y : X). text y ∷ lines m) (gets x m is),
  )

  some : (m : M) × Whole m
  some = let m = (after first first_is).some in (m.0, (whole first m.0 first_is m.1).0)

  not_read : (ps : List (List ℕ)) (m : M) → step None ps ≡ Ok m → ⊥
  not_read ps m e = cc

  -- a line that can't be read is the first that fits no text
  fault_here : (ps : List (List ℕ)) (i : ℕ) → k < length ps → read (line_of (suc k) ps) ≡ None → step None ps ≡ Err i
      → FirstFault k Whole all_lines ps i
  fault_here ps i inside is e =
      let from : 0 < length (drop k ps) = rw (length-drop k ps) (omega arith) in
      let m = some.0 in record {
        count = 0;
        at = error_at k i e;
        some = (m, some.1, shares_none (drop k ps) (ended (all_lines m)) from (more_than_none (all_lines m)));
        none = λ m w shared.
            none_shared k read text IsLawful field 0 ps (get m) (lines m) (all_lines m) is w.0 refl shared;
      }

  pub line_then : IsReading k (λ ps. step (read (line_of (suc k) ps)) ps) Whole all_lines
  line_then =
      line_by k read text IsLawful step (λ _. ⊥) Is (λ _. lines) Whole all_lines field after whole
      (λ m w. inr (get m, w.0, w.1)) (λ m none. absurd none) some (λ ps m _ e. absurd (not_read ps m e))
      (λ ps m none _. absurd none) (λ ps i _ inside is e. fault_here ps i inside is e) (λ m none. absurd none)

-- Messages of several kinds, with the kind given by the first line.
use Rattle.message.proofs.Words.{Bool, Err, List, None, Result, Some, [], rest_after, and_parts, ap, bytes_eq}
use Rattle.message.proofs.Words.{bytes_eq-Decides, cases_Bool, cond, cond-false, drop, eq-eqb, eqb, false, inl, inr}
use Rattle.message.proofs.Words.{is_some, length, line_of, list_all, made, not, not-true, or_cases, refl, subst, suc}
use Rattle.message.proofs.Words.{sym, take, true, ℕ, ◌++◌, ◌||◌, ◌∙◌, ◌∷◌, ◌≡◌}
use Rattle.message.proofs.Fields.{after_again}
use Rattle.message.proofs.Lines.{ended, line_is, Shares, shares_less}
use Rattle.message.proofs.Readings.{IsReading, fault_as, read_as, same_reading}

-- ---- the start of a line

-- whether a line begins with these bytes
abbrev pub has_head : List ℕ → List ℕ → Bool
has_head head line = is_some (rest_after head line)

-- The answer is whether line 1 of a text begins with these bytes.
abbrev pub Heads : List ℕ → Bool → List (List ℕ) → Type 0
Heads head answer lines = (l : List ℕ) × (ls : List (List ℕ)) × (lines ≡ l ∷ ls) × (has_head head l ≡ answer)

-- Line 1 of a text is these bytes, followed by others.
abbrev pub Begins : List ℕ → List (List ℕ) → Type 0
Begins head lines = (t : List ℕ) × (ls : List (List ℕ)) × (lines ≡ (head ++ t) ∷ ls)

-- two prefixes differ within the length of the shorter one
abbrev pub are_apart : List ℕ → List ℕ → Bool
are_apart [] g = false
are_apart (a ∷ h) [] = false
are_apart (a ∷ h) (b ∷ g) = not (eqb a b) || are_apart h g

not_front : (h g t : List ℕ) → are_apart h g ≡ true → take (length h) (g ++ t) ≡ h → ⊥
not_front [] g t e same = absurd cc
not_front (a ∷ h) [] t e same = absurd cc
not_front (a ∷ h) (b ∷ g) t e same = elim (or_cases (not (eqb a b)) (are_apart h g) e) [
  | inl first ↦
      let equal : a ≡ b = cc in
      absurd (cc (sym (not-true _ first) ∙ eq-eqb a b equal))
  | inr later ↦ let rest : take (length h) (g ++ t) ≡ h = cc in not_front h g t later rest
]

-- a line that begins with one of them does not begin with the other
pub other_head : (head begun : List ℕ) → are_apart head begun ≡ true → (lines : List (List ℕ)) → Begins begun lines
    → Heads head false lines
other_head head begun apart lines first = (begun ++ first.0, first.1, first.2, not_begun first.0)
  where
    not_begun : (t : List ℕ) → has_head head (begun ++ t) ≡ false
    not_begun t = elim (cases_Bool (bytes_eq (take (length head) (begun ++ t)) head)) [
      | inl same ↦ absurd (not_front head begun t apart ((bytes_eq-Decides _ _).0 same))
      | inr other ↦ ap is_some (cond-false _ (Some (drop (length head) (begun ++ t))) None other)
    ]

-- a line that consists of a prefix and more begins with the prefix
pub same_head : (head : List ℕ) (lines : List (List ℕ)) → Begins head lines → Heads head true lines
same_head head lines first = (head ++ first.0, first.1, first.2, ap is_some (after_again head first.0))

-- ---- messages of one kind

-- A message of one kind.
abbrev pub IsOf : {A M : Type 0} → (A → M) → (A → Type 0) → M → Type 0
IsOf {A} of Is m = (a : A) × (m ≡ of a) × Is a

-- reading the values of one kind is reading the messages of that kind
pub of_kind : {A M : Type 0} (all : M → List (List ℕ)) (of : A → M) (read : List (List ℕ) → Result A ℕ)
    (Is : A → Type 0) (lines : A → List (List ℕ)) → ((a : A) → all (of a) ≡ lines a) → IsReading 0 read Is lines
    → IsReading 0 (λ ps. made of (read ps)) (IsOf of Is) all
of_kind all of read Is lines same reads =
    read_as 0 of read Is lines (IsOf of Is) all (λ a is. ((a, refl, is), same a)) (λ m is. is) reads

-- ---- one kind, or others

module _ {M : Type 0} (IsThis IsOther : M → Type 0) where
  abbrev pub IsBy : Bool → M → Type 0
  IsBy true m = IsThis m
  IsBy false m = IsOther m

  abbrev pub Either : M → Type 0
  Either m = (b : Bool) × IsBy b m

module _ {M : Type 0} (lines : M → List (List ℕ)) (head : List ℕ) (this others : List (List ℕ) → Result M ℕ)
    (IsThis IsOther : M → Type 0) (this_reads : IsReading 0 this IsThis lines)
    (others_read : IsReading 0 others IsOther lines) (heads : (m : M) → IsThis m → Heads head true (lines m))
    (differs : (m : M) → IsOther m → Heads head false (lines m)) where
  reads_by : (b : Bool) → IsReading 0 (λ ps. cond b (this ps) (others ps)) (IsBy IsThis IsOther b) lines
  reads_by true = this_reads
  reads_by false = others_read

  heads_by : (b : Bool) (m : M) → IsBy IsThis IsOther b m → Heads head b (lines m)
  heads_by true = heads
  heads_by false = differs

  -- two texts that share line 1 both begin with the head, or neither does
  one_head : (ps : List (List ℕ)) (j : ℕ) (m : M) (b : Bool) → Heads head b (lines m)
      → Shares (suc j) ps (ended (lines m)) → b ≡ has_head head (line_of 1 ps)
  one_head ps j m b first shared =
      sym first.3 ∙ ap (has_head head) (sym (shares_less 0 j ps first.0 first.1 (lines m) first.2 shared).0)

  pub this_or : IsReading 0 (λ ps. cond (has_head head (line_of 1 ps)) (this ps) (others ps))
      (Either IsThis IsOther) lines
  this_or = record {
    some = (this_reads.some.0, (true, this_reads.some.1));
    found = λ ps m fits e.
        let b = has_head head (line_of 1 ps) in
        let is = (reads_by b).found ps m fits e in
        ((b, is.0), is.1);
    again = λ ps m is e.
        let first = heads_by is.0 m is.1 in
        let at = line_is 0 ps first.0 first.1 (lines m) first.2 e in
        ap (λ (b : Bool). cond b (this ps) (others ps)) (ap (has_head head) at.0 ∙ first.3)
        ∙ (reads_by is.0).again ps m is.1 e;
    fault = λ ps i fits inside e.
        let b = has_head head (line_of 1 ps) in
        fault_as ((reads_by b).fault ps i fits inside e) (λ m is. (m, (b, is), refl)) (λ j m is shared. (
          m,
          subst (λ (b : Bool). IsBy IsThis IsOther b m)
              (one_head ps j m is.0 (heads_by is.0 m is.1) shared) is.1,
          refl,
        ));
    are_lines = λ m is. (reads_by is.0).are_lines m is.1;
  }

-- ---- kinds in turn

-- A reading of messages that each begin with one of these heads.
pub record IsChoice {M : Type 0} (heads : List (List ℕ)) (read : List (List ℕ) → Result M ℕ) (Is : M → Type 0)
    (lines : M → List (List ℕ)) : Type 0 where
  pub reads : IsReading 0 read Is lines
  pub differs : (head : List ℕ) → list_all (are_apart head) heads ≡ true → (m : M) → Is m → Heads head false (lines m)

module _ {A M : Type 0} (all : M → List (List ℕ)) (head : List ℕ) (of : A → M) (read : List (List ℕ) → Result A ℕ)
    (Is : A → Type 0) (lines : A → List (List ℕ)) (same : (a : A) → all (of a) ≡ lines a)
    (reads : IsReading 0 read Is lines) (begins : (a : A) → Begins head (lines a)) where
  abbrev this : List (List ℕ) → Result M ℕ
  this ps = made of (read ps)

  abbrev IsThis : M → Type 0
  IsThis m = IsOf of Is m

  begun : (m : M) → IsThis m → Begins head (all m)
  begun m is = subst (Begins head) (sym (same is.0) ∙ ap all (sym is.1)) (begins is.0)

  -- this kind alone, if each of its values begins with the head
  pub kind_alone : ((ps : List (List ℕ)) → has_head head (line_of 1 ps) ≡ false → read ps ≡ Err 1)
      → IsChoice (head ∷ []) (λ ps. cond (has_head head (line_of 1 ps)) (this ps) (Err 1)) IsThis all
  kind_alone unread = record {
    reads = same_reading 0 this _ IsThis all (λ ps. by ps (has_head head (line_of 1 ps)) refl)
        (of_kind all of read Is lines same reads);
    differs = λ g apart m is. other_head g head (and_parts _ _ apart).0 (all m) (begun m is);
  }
    where
      by : (ps : List (List ℕ)) (b : Bool) → has_head head (line_of 1 ps) ≡ b → this ps ≡ cond b (this ps) (Err 1)
      by ps true is = refl
      by ps false is = ap (made of) (unread ps is)

  -- this kind, or others
  pub kind_or : {heads : List (List ℕ)} {others : List (List ℕ) → Result M ℕ} {IsOther : M → Type 0}
      → IsChoice heads others IsOther all → list_all (are_apart head) heads ≡ true
      → IsChoice (head ∷ heads) (λ ps. cond (has_head head (line_of 1 ps)) (this ps) (others ps))
      (Either IsThis IsOther) all
  kind_or {heads} {others} {IsOther} choice apart = record {
    reads = this_or all head this others IsThis IsOther (of_kind all of read Is lines same reads) choice.reads
        (λ m is. same_head head (all m) (begun m is)) (choice.differs head apart);
    differs = by;
  }
    where
      by : (g : List ℕ) → list_all (are_apart g) (head ∷ heads) ≡ true → (m : M) → Either IsThis IsOther m
          → Heads g false (all m)
      by g apart m (true, is) = other_head g head (and_parts _ _ apart).0 (all m) (begun m is)
      by g apart m (false, is) = choice.differs g (and_parts _ _ apart).1 m is

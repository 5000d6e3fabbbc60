-- The runs of a set are its maximal intervals.
use Rattle.krl.proofs.Words.{AreRunsFrom, Bool, IsMemberOf, IsRunOf, List, Run, [], ap, arith, cases_lt, contains}
use Rattle.krl.proofs.Words.{false}
use Rattle.krl.proofs.Words.{inl, inr, is_within, leb, list_any, nat_tests, refl, subst, sym, true, ℕ, ◌&&◌, ◌+◌, ◌-◌}
use Rattle.krl.proofs.Words.{◌<◌, ◌||◌, ◌∙◌, ◌∷◌, ◌≡◌, ◌≤◌}
use Rattle.std.proofs.lemmas.Bool.{or_left}
use Rattle.krl.specs.Sets.{HasAll}
use Rattle.krl.proofs.Booleans.{is_in, is_under, is_over, ends, or_true, or_cases, clash}

-- a serial below the runs is in none of them
pub none_below : (from n : ℕ) (rs : List Run) → AreRunsFrom from rs → n < from → contains rs n ≡ false
none_below from n [] h lt = refl
none_below from n (r ∷ rs) h lt =
    let out : is_within n r ≡ false = is_under n r.lo r.hi (omega arith) in
    rw out (none_below (r.hi + 2) n rs h.3 (omega arith))

-- runs that ascend from a serial on also ascend from a lower one on
pub weaken : (a b : ℕ) (rs : List Run) → a ≤ b → AreRunsFrom b rs → AreRunsFrom a rs
weaken a b [] le h = tt
weaken a b (r ∷ rs) le h = (omega arith, h.1, h.2, h.3)

-- each begins at or above `from`
pub one_from : (from : ℕ) (rs : List Run) (r : Run) → AreRunsFrom from rs → IsMemberOf r rs → from ≤ r.lo
one_from from [] r h c = absurd c
one_from from (s ∷ rs) r h (inl same) = subst (λ (x : Run). from ≤ x.lo) same h.0
one_from from (s ∷ rs) r h (inr c) = let le = one_from (s.hi + 2) rs r h.3 c in omega arith

first_is_run : (from : ℕ) (s : Run) (rs : List Run) → AreRunsFrom from (s ∷ rs) → IsRunOf (contains (s ∷ rs)) s
first_is_run from s rs h = record {
  some = h.1;
  inside = λ n p q. rw (is_in n s.lo s.hi p q) refl;
  below = λ n e. rw (is_under n s.lo s.hi (omega arith)) (none_below (s.hi + 2) n rs h.3 (omega arith));
  above = rw (is_over (s.hi + 1) s.lo s.hi (omega arith)) (none_below (s.hi + 2) (s.hi + 1) rs h.3 (omega arith));
}

-- each of the runs is a run of the set that they represent
pub each_is_run : (from : ℕ) (rs : List Run) (r : Run) → AreRunsFrom from rs → IsMemberOf r rs → IsRunOf (contains rs) r
each_is_run from [] r h c = absurd c
each_is_run from (s ∷ rs) r h (inl same) =
    subst (λ (x : Run). IsRunOf (contains (s ∷ rs)) x) same (first_is_run from s rs h)
each_is_run from (s ∷ rs) r h (inr c) =
    let le = one_from (s.hi + 2) rs r h.3 c in
    let is = each_is_run (s.hi + 2) rs r h.3 c in
    record {
      some = is.some;
      inside = λ n p q. rw (is.inside n p q) (or_true (is_within n s));
      below = λ n e. rw (is_over n s.lo s.hi (omega arith)) (is.below n e);
      above = let some : r.lo ≤ r.hi = is.some in rw (is_over (r.hi + 1) s.lo s.hi (omega arith)) is.above;
    }

-- the run that a serial of the set is in
pub run_of : (rs : List Run) (n : ℕ) → contains rs n ≡ true → (s : Run) × IsMemberOf s rs × (s.lo ≤ n) × (n ≤ s.hi)
run_of [] n e = absurd cc
run_of (s ∷ rs) n e = elim (or_cases (is_within n s) (contains rs n) e) [
  | inl here ↦ let p = ends n s.lo s.hi here in (s, inl refl, p.0, p.1)
  | inr later ↦ let t = run_of rs n later.1 in (t.0, inr t.1, t.2, t.3)
]

-- the serials of one of the runs are in the set
pub member_contains : (rs : List Run) (s : Run) (m : ℕ) → IsMemberOf s rs → s.lo ≤ m → m ≤ s.hi → contains rs m ≡ true
member_contains [] s m c a b = absurd c
member_contains (t ∷ rs) s m (inl same) a b =
    or_left (is_within m t) (contains rs m)
    (subst (λ (x : Run). is_within m x ≡ true) (sym same) (is_in m s.lo s.hi a b))
member_contains (t ∷ rs) s m (inr c) a b = rw (member_contains rs s m c a b) (or_true (is_within m t))

-- two runs of one set that share a serial are the same run
one_run : (set : ℕ → Bool) (r s : Run) (n : ℕ) → IsRunOf set r → IsRunOf set s → r.lo ≤ n → n ≤ r.hi → s.lo ≤ n
    → n ≤ s.hi → s ≡ r
one_run set r s n p q a b c d =
    let lo : s.lo ≡ r.lo = elim (cases_lt s.lo r.lo) [
      | inl lt ↦
          clash (set (r.lo - 1)) (q.inside (r.lo - 1) (omega arith) (omega arith)) (p.below (r.lo - 1) (omega arith))
      | inr le ↦ elim (cases_lt r.lo s.lo) [
        | inl lt ↦
            clash (set (s.lo - 1)) (p.inside (s.lo - 1) (omega arith) (omega arith)) (q.below (s.lo - 1) (omega arith))
        | inr ge ↦ omega arith
      ]
    ] in
    let hi : s.hi ≡ r.hi = elim (cases_lt s.hi r.hi) [
      | inl lt ↦ clash (set (s.hi + 1)) (p.inside (s.hi + 1) (omega arith) (omega arith)) q.above
      | inr le ↦ elim (cases_lt r.hi s.hi) [
        | inl lt ↦ clash (set (r.hi + 1)) (q.inside (r.hi + 1) (omega arith) (omega arith)) p.above
        | inr ge ↦ omega arith
      ]
    ] in
    λ i. record { lo = lo i; hi = hi i }

-- each run of the set that the runs represent is one of them
pub each_run_is_there : (from : ℕ) (rs : List Run) (r : Run) → AreRunsFrom from rs → IsRunOf (contains rs) r
    → IsMemberOf r rs
each_run_is_there from rs r h is =
    let some : r.lo ≤ r.hi = is.some in
    let s = run_of rs r.lo (is.inside r.lo (omega arith) some) in
    subst (λ (x : Run). IsMemberOf x rs)
    (one_run (contains rs) r s.0 r.lo is (each_is_run from rs s.0 h s.1) (omega arith) some s.2 s.3) s.1

-- of two lists of runs of one set, neither begins above the other
same_first : (a b : ℕ) (r s : Run) (rs qs : List Run) → AreRunsFrom a (r ∷ rs) → AreRunsFrom b (s ∷ qs)
    → ((n : ℕ) → contains (r ∷ rs) n ≡ contains (s ∷ qs) n) → s.lo ≤ r.lo
same_first a b r s rs qs h k same = elim (cases_lt r.lo s.lo) [
  | inl lt ↦ clash (contains (s ∷ qs) r.lo)
      (sym (same r.lo) ∙ or_left (is_within r.lo r) (contains rs r.lo) (is_in r.lo r.lo r.hi (omega arith) h.1))
      (rw (is_under r.lo s.lo s.hi lt) (none_below (s.hi + 2) r.lo qs k.3 (omega arith)))
  | inr le ↦ le
]

-- lists of runs that represent the same set are equal
pub runs_unique : (a b : ℕ) (rs qs : List Run) → AreRunsFrom a rs → AreRunsFrom b qs
    → ((n : ℕ) → contains rs n ≡ contains qs n) → rs ≡ qs
runs_unique a b [] [] h k same = refl
runs_unique a b [] (s ∷ qs) h k same =
    clash (contains (s ∷ qs) s.lo)
    (or_left (is_within s.lo s) (contains qs s.lo) (is_in s.lo s.lo s.hi (omega arith) k.1)) (sym (same s.lo))
runs_unique a b (r ∷ rs) [] h k same =
    clash (contains (r ∷ rs) r.lo)
    (or_left (is_within r.lo r) (contains rs r.lo) (is_in r.lo r.lo r.hi (omega arith) h.1)) (same r.lo)
runs_unique a b (r ∷ rs) (s ∷ qs) h k same =
    let p = same_first a b r s rs qs h k same in
    let q = same_first b a s r qs rs k h (λ n. sym (same n)) in
    let set : contains (s ∷ qs) ≡ contains (r ∷ rs) = λ i n. sym (same n) i in
    let other : IsRunOf (contains (r ∷ rs)) s = subst (λ (t : ℕ → Bool). IsRunOf t s) set (first_is_run b s qs k) in
    let one : r ≡ s = one_run (contains (r ∷ rs)) s r r.lo other (first_is_run a r rs h) (omega arith)
    (let le : s.lo ≤ s.hi = k.1 in omega arith) (omega arith) h.1 in
    let hi : r.hi ≡ s.hi = ap (λ (x : Run). x.hi) one in
    let lo : r.lo ≡ s.lo = ap (λ (x : Run). x.lo) one in
    let rest = runs_unique (r.hi + 2) (s.hi + 2) rs qs h.3 k.3 (λ n. elim (cases_lt n (r.hi + 2)) [
      | inl lt ↦ none_below (r.hi + 2) n rs h.3 lt ∙ sym (none_below (s.hi + 2) n qs k.3 (omega arith))
      | inr le ↦ sym (ap (λ b. b || contains rs n) (is_over n r.lo r.hi (omega arith))) ∙ same n
          ∙ ap (λ b. b || contains qs n) (is_over n s.lo s.hi (omega arith))
    ]) in
    λ i. one i ∷ rest i

-- whether one run covers an interval
abbrev pub covered_by : ℕ → ℕ → Run → Bool
covered_by lo hi r = leb r.lo lo && leb hi r.hi

-- an interval that one of the runs covers is in the set
pub covered : (from lo hi : ℕ) (rs : List Run) → AreRunsFrom from rs → list_any (covered_by lo hi) rs ≡ true
    → HasAll (contains rs) lo hi
covered from lo hi [] h e n p q = absurd cc
covered from lo hi (r ∷ rs) h e n p q = elim (or_cases (covered_by lo hi r) (list_any (covered_by lo hi) rs) e) [
  | inl here ↦ let both = ends_of r here in
      or_left (is_within n r) (contains rs n) (is_in n r.lo r.hi (omega arith) (omega arith))
  | inr later ↦ rw (covered (r.hi + 2) lo hi rs h.3 later.1 n p q) (or_true (is_within n r))
]
  where
    ends_of : (r : Run) → covered_by lo hi r ≡ true → (r.lo ≤ lo) × (hi ≤ r.hi)
    ends_of r e = (grind (arith, nat_tests), grind (arith, nat_tests))

-- the run in which an interval of the set begins covers it
one_covers : (rs : List Run) (s : Run) (lo hi : ℕ) → IsMemberOf s rs → s.lo ≤ lo → hi ≤ s.hi
    → list_any (covered_by lo hi) rs ≡ true
one_covers [] s lo hi c a b = absurd c
one_covers (t ∷ rs) s lo hi (inl same) a b =
    or_left (covered_by lo hi t) (list_any (covered_by lo hi) rs)
    (subst (λ (x : Run). covered_by lo hi x ≡ true) (sym same) (both s a b))
  where
    both : (s : Run) → s.lo ≤ lo → hi ≤ s.hi → covered_by lo hi s ≡ true
    both s a b = grind (arith, nat_tests)
one_covers (t ∷ rs) s lo hi (inr c) a b = rw (one_covers rs s lo hi c a b) (or_true (covered_by lo hi t))

pub covers_all : (from lo hi : ℕ) (rs : List Run) → AreRunsFrom from rs → lo ≤ hi → HasAll (contains rs) lo hi
    → list_any (covered_by lo hi) rs ≡ true
covers_all from lo hi rs h le all =
    let s = run_of rs lo (all lo (omega arith) le) in
    let is = each_is_run from rs s.0 h s.1 in
    one_covers rs s.0 lo hi s.1 s.2 (elim (cases_lt s.0.hi hi) [
      | inl lt ↦ clash (contains rs (s.0.hi + 1)) (all (s.0.hi + 1) (omega (arith, s.3)) (omega arith)) is.above
      | inr ge ↦ ge
    ])

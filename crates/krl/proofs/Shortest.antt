-- No parts that name the set of the runs are shorter than the written ones.
use Rattle.krl.proofs.Words.{AreRuns, AreRunsFrom, Bool, IsMemberOf, IsRunOf, KeyIds, List, OtherPart, Part, Range, Run}
use Rattle.krl.proofs.Words.{Serials, [], ap, arith, cases_Bool, cases_lt, cond, contains, eqb, false, if◌then◌else◌}
use Rattle.krl.proofs.Words.{inl, inr, is_among, is_short, is_within, le-ltb, leb, length, length-append, listed}
use Rattle.krl.proofs.Words.{nat_lt, nat_tests, ne_eqb, ranges, refl, serial_list, serials_of, subst, sym, true, ℕ}
use Rattle.krl.proofs.Words.{◌&&◌, ◌*◌, ◌++◌, ◌+◌, ◌-◌, ◌<◌, ◌||◌, ◌∙◌, ◌∷◌, ◌≡◌, ◌≤◌}
use Rattle.std.proofs.lemmas.Bool.{eqb-true}
use Rattle.krl.proofs.Booleans.{ltb-yes, is_in, or_true, or_cases, clash}
use Rattle.krl.proofs.Maximal.{run_of, each_is_run, none_below, member_contains}

-- the least length of a part; parts with key ids, and others, name no serial
abbrev pub part_len : Part → ℕ
part_len (Serials ns) = 5 + 8 * length ns
part_len (Range r) = 5 + 16
part_len (KeyIds ids) = 0
part_len (OtherPart t bytes) = 0

abbrev pub parts_len : List Part → ℕ
parts_len [] = 0
parts_len (p ∷ ps) = part_len p + parts_len ps

-- whether a list has the serial
abbrev pub has : List ℕ → ℕ → Bool
has es n = is_among es n

abbrev pub how_many : {X : Type 0} → (X → Bool) → List X → ℕ
how_many p [] = 0
how_many p (x ∷ xs) = cond (p x) 1 0 + how_many p xs

-- the least cost of a run
abbrev pub least_of : Run → ℕ
least_of r = if nat_lt r.hi (r.lo + 2) then 8 * ((r.hi - r.lo) + 1) else 21

abbrev pub least_of_all : List Run → ℕ
least_of_all [] = 0
least_of_all (r ∷ rs) = least_of r + least_of_all rs

-- ---- counting different members

-- the list without a serial
abbrev without : ℕ → List ℕ → List ℕ
without a [] = []
without a (e ∷ es) = cond (eqb a e) (without a es) (e ∷ without a es)

-- a serial of the list that passes adds one to the number of the others that pass
one_more : (p : ℕ → Bool) (es : List ℕ) (a : ℕ) → p a ≡ true
    → how_many p (without a es) + cond (has es a) 1 0 ≤ how_many p es
one_more p [] a pa = omega arith
one_more p (e ∷ es) a pa =
    let more = one_more p es a pa in
    elim (cases_Bool (eqb a e)) [
      | inl same ↦ let pe : p e ≡ true = ap p (sym (eqb-true _ _ same)) ∙ pa in rw (same, pe) (omega arith)
      | inr other ↦ rw other (omega arith)
    ]

still_has : (es : List ℕ) (a b : ℕ) → ¬ (b ≡ a) → has es b ≡ true → has (without a es) b ≡ true
still_has [] a b apart h = absurd cc
still_has (e ∷ es) a b apart h = elim (or_cases (eqb b e) (has es b) h) [
  | inl same ↦
      let other : eqb a e ≡ false = ne_eqb a e (λ is. apart (eqb-true _ _ same ∙ sym is)) in
      rw (other, same) refl
  | inr later ↦ elim (cases_Bool (eqb a e)) [
    | inl is ↦ rw is (still_has es a b apart later.1)
    | inr other ↦ rw other (rw (still_has es a b apart later.1) (or_true (eqb b e)))
  ]
]

one_counts : (p : ℕ → Bool) (es : List ℕ) (a : ℕ) → has es a ≡ true → p a ≡ true → 1 ≤ how_many p es
one_counts p es a h pa = let more = rw h at (one_more p es a pa) in omega arith

two_count : (p : ℕ → Bool) (es : List ℕ) (a b : ℕ) → a < b → has es a ≡ true → has es b ≡ true → p a ≡ true
    → p b ≡ true → 2 ≤ how_many p es
two_count p es a b lt ha hb pa pb =
    let more = rw ha at (one_more p es a pa) in
    let rest = one_counts p (without a es) b (still_has es a b (omega arith) hb) pb in
    omega arith

three_count : (p : ℕ → Bool) (es : List ℕ) (a b c : ℕ) → a < b → b < c → has es a ≡ true → has es b ≡ true
    → has es c ≡ true → p a ≡ true → p b ≡ true → p c ≡ true → 3 ≤ how_many p es
three_count p es a b c lt lu ha hb hc pa pb pc =
    let more = rw ha at (one_more p es a pa) in
    let rest = two_count p (without a es) b c lu (still_has es a b (omega arith) hb)
    (still_has es a c (omega arith) hc) pb pc in
    omega arith

-- ---- the cost of one run

member_counts : (p : Run → Bool) (rs : List Run) (s : Run) → IsMemberOf s rs → p s ≡ true → 1 ≤ how_many p rs
member_counts p [] s c e = absurd c
member_counts p (t ∷ rs) s (inl same) e = let pt : p t ≡ true = subst (λ (x : Run). p x ≡ true) (sym same) e in
    rw pt (omega arith)
member_counts p (t ∷ rs) s (inr c) e = let more = member_counts p rs s c e in omega arith

-- a range that has a serial of the run begins in the run
begins_in : (set : ℕ → Bool) (r : Run) (rs : List Run) (n : ℕ) → IsRunOf set r
    → ((m : ℕ) → contains rs m ≡ true → set m ≡ true) → r.lo ≤ n → n ≤ r.hi → contains rs n ≡ true
    → 1 ≤ how_many (λ (q : Run). is_within q.lo r) rs
begins_in set r rs n is inside p q e =
    let s = run_of rs n e in
    let from : r.lo ≤ s.0.lo = elim (cases_lt s.0.lo r.lo) [
      | inl lt ↦
          clash (set (r.lo - 1))
          (inside (r.lo - 1) (member_contains rs s.0 (r.lo - 1) s.1 (omega arith) (omega (arith, s.3))))
          (is.below (r.lo - 1) (omega arith))
      | inr le ↦ le
    ] in
    member_counts (λ (t : Run). is_within t.lo r) rs s.0 s.1 (is_in s.0.lo r.lo r.hi from (omega (arith, s.2)))

-- if no range begins in the run, each of its serials is listed
each_listed : (r : Run) (es : List ℕ) (rs : List Run) (n : ℕ) → IsRunOf (λ n. has es n || contains rs n) r
    → how_many (λ (q : Run). is_within q.lo r) rs < 1 → r.lo ≤ n → n ≤ r.hi → has es n ≡ true
each_listed r es rs n is none p q =
    elim (or_cases (has es n) (contains rs n) (is.inside n p q)) [
      | inl here ↦ here
      | inr there ↦
          let some = begins_in (λ n. has es n || contains rs n) r rs n is
          (λ m e. rw e (or_true (has es m))) p q there.1 in
          absurd (omega arith)
    ]

least_small : (r : Run) → r.lo ≤ r.hi → least_of r ≤ 21
least_small r le = grind (arith, nat_tests)

listed_costs : (r : Run) (es : List ℕ) → r.lo ≤ r.hi → ((n : ℕ) → r.lo ≤ n → n ≤ r.hi → has es n ≡ true)
    → least_of r ≤ 8 * how_many (λ e. is_within e r) es
listed_costs r es le each = elim (cases_lt r.hi (r.lo + 2)) [
  | inl lt ↦ rw (ltb-yes lt) (elim (cases_lt r.lo r.hi) [
    | inl two ↦
        let more = two_count (λ e. is_within e r) es r.lo r.hi two (each r.lo (omega arith) le)
        (each r.hi le (omega arith)) (is_in r.lo r.lo r.hi (omega arith) le)
        (is_in r.hi r.lo r.hi le (omega arith)) in
        omega arith
    | inr one ↦
        let more = one_counts (λ e. is_within e r) es r.lo (each r.lo (omega arith) le)
        (is_in r.lo r.lo r.hi (omega arith) le) in
        omega arith
  ])
  | inr ge ↦ rw (le-ltb _ _ ge) (
      let more = three_count (λ e. is_within e r) es r.lo (r.lo + 1) (r.lo + 2) (omega arith) (omega arith)
      (each r.lo (omega arith) (omega arith)) (each (r.lo + 1) (omega arith) (omega arith))
      (each (r.lo + 2) (omega arith) (omega arith))
      (is_in r.lo r.lo r.hi (omega arith) (omega arith)) (is_in (r.lo + 1) r.lo r.hi (omega arith) (omega arith))
      (is_in (r.lo + 2) r.lo r.hi (omega arith) (omega arith)) in
      omega arith)
]

pub run_costs : (r : Run) (es : List ℕ) (rs : List Run) → IsRunOf (λ n. has es n || contains rs n) r
    → least_of r ≤ 8 * how_many (λ e. is_within e r) es + 21 * how_many (λ (q : Run). is_within q.lo r) rs
run_costs r es rs is =
    let some : r.lo ≤ r.hi = is.some in
    elim (cases_lt (how_many (λ (q : Run). is_within q.lo r) rs) 1) [
      | inl none ↦ let cost = listed_costs r es some (λ n p q. each_listed r es rs n is none p q) in omega arith
      | inr one ↦ let cost = least_small r some in omega arith
    ]

-- ---- the cost of all runs

pub pairwise : {X : Type 0} (p q o : X → Bool) (xs : List X)
    → ((x : X) → cond (p x) 1 0 + cond (q x) 1 0 ≤ cond (o x) 1 0) → how_many p xs + how_many q xs ≤ how_many o xs
pairwise p q o [] h = omega arith
pairwise p q o (x ∷ xs) h = let one = h x in let more = pairwise p q o xs h in omega arith

pub at_most_all : {X : Type 0} (p : X → Bool) (xs : List X) → how_many p xs ≤ length xs
at_most_all p [] = omega arith
at_most_all p (x ∷ xs) = let more = at_most_all p xs in let one : cond (p x) 1 0 ≤ 1 =
    elim (p x) as (λ b. cond b 1 0 ≤ 1) [ true ↦ omega arith | false ↦ omega arith ] in omega arith

-- the sum, over the runs, of the number of items that begin in each
abbrev pub in_runs : {X : Type 0} → (X → ℕ) → List Run → List X → ℕ
in_runs key [] xs = 0
in_runs key (r ∷ rs) xs = how_many (λ x. is_within (key x) r) xs + in_runs key rs xs

pub in_runs_bound : {X : Type 0} (key : X → ℕ) (from : ℕ) (rs : List Run) (xs : List X) → AreRunsFrom from rs
    → in_runs key rs xs ≤ how_many (λ x. contains rs (key x)) xs
in_runs_bound key from [] xs h = omega arith
in_runs_bound key from (r ∷ rs) xs h =
    let rest = in_runs_bound key (r.hi + 2) rs xs h.3 in
    let apart = pairwise (λ x. is_within (key x) r) (λ x. contains rs (key x)) (λ x. contains (r ∷ rs) (key x)) xs
    (λ x. once (key x)) in
    omega arith
  where
    below : (n a b : ℕ) → (leb a n && leb n b) ≡ true → n ≤ b
    below n a b e = grind (arith, nat_tests)

    once_by : (n : ℕ) (b : Bool) → is_within n r ≡ b
        → cond b 1 0 + cond (contains rs n) 1 0 ≤ cond (b || contains rs n) 1 0
    once_by n true e = let le = below n r.lo r.hi e in rw (none_below (r.hi + 2) n rs h.3 (omega arith)) (omega arith)
    once_by n false e = omega arith

    once : (n : ℕ) → cond (is_within n r) 1 0 + cond (contains rs n) 1 0 ≤ cond (is_within n r || contains rs n) 1 0
    once n = once_by n (is_within n r) refl

pub sum_costs : (all rs : List Run) (es : List ℕ) (qs : List Run)
    → ((r : Run) → IsMemberOf r rs → IsRunOf (λ n. has es n || contains qs n) r)
    → least_of_all rs ≤ 8 * in_runs (λ e. e) rs es + 21 * in_runs (λ (q : Run). q.lo) rs qs
sum_costs all [] es qs h = omega arith
sum_costs all (r ∷ rs) es qs h =
    let one = run_costs r es qs (h r (inl refl)) in
    let more = sum_costs all rs es qs (λ s c. h s (inr c)) in
    omega arith

-- listed serials and ranges that name the set of the runs cost at least this
pub least : (rs : List Run) (es : List ℕ) (qs : List Run) → AreRuns rs
    → ((n : ℕ) → contains rs n ≡ (has es n || contains qs n))
    → least_of_all rs ≤ 8 * length es + 21 * length qs
least rs es qs h same =
    let set : contains rs ≡ (λ n. has es n || contains qs n) = λ i n. same n i in
    let cost = sum_costs rs rs es qs (λ r c. subst (λ (s : ℕ → Bool). IsRunOf s r) set (each_is_run 0 rs r h c)) in
    let a = in_runs_bound (λ e. e) 0 rs es h in
    let b = in_runs_bound (λ (q : Run). q.lo) 0 rs qs h in
    let c = at_most_all (λ e. contains rs e) es in
    let d = at_most_all (λ (q : Run). contains rs q.lo) qs in
    omega arith

-- ---- ranges only

runs_begin : (rs qs : List Run) → ((r : Run) → IsMemberOf r rs → 1 ≤ how_many (λ (q : Run). is_within q.lo r) qs)
    → length rs ≤ in_runs (λ (q : Run). q.lo) rs qs
runs_begin [] qs h = omega arith
runs_begin (r ∷ rs) qs h = let one = h r (inl refl) in let more = runs_begin rs qs (λ s c. h s (inr c)) in omega arith

pub ranges_alone : (rs qs : List Run) → AreRuns rs → ((n : ℕ) → contains rs n ≡ contains qs n) → length rs ≤ length qs
ranges_alone rs qs h same =
    let all = runs_begin rs qs (λ r c.
    let is = each_is_run 0 rs r h c in
    let some : r.lo ≤ r.hi = is.some in
    begins_in (contains rs) r qs r.lo is (λ m e. same m ∙ e) (omega arith) some
    (sym (same r.lo) ∙ is.inside r.lo (omega arith) some)) in
    let b = in_runs_bound (λ (q : Run). q.lo) 0 rs qs h in
    let d = at_most_all (λ (q : Run). contains rs q.lo) qs in
    omega arith

-- ---- the written parts

abbrev pub how_short : List Run → ℕ
how_short rs = how_many is_short rs

pub short_saves : (from : ℕ) (rs : List Run) → AreRunsFrom from rs → least_of_all rs + 5 * how_short rs ≤ 21 * length rs
short_saves from [] h = omega arith
short_saves from (r ∷ rs) h =
    let more = short_saves (r.hi + 2) rs h.3 in
    let one : least_of r + 5 * cond (is_short r) 1 0 ≤ 21 = one_saves r h.1 in
    omega arith
  where
    one_saves : (r : Run) → r.lo ≤ r.hi → least_of r + 5 * cond (is_short r) 1 0 ≤ 21
    one_saves r le = grind (arith, nat_tests)

pub lists_len : (ns : List ℕ) → parts_len (serial_list ns) ≤ 5 + 8 * length ns
lists_len [] = omega arith
lists_len (n ∷ ns) = omega arith

pub parts_len-append : (ps qs : List Part) → parts_len (ps ++ qs) ≡ parts_len ps + parts_len qs
parts_len-append [] qs = omega arith
parts_len-append (p ∷ ps) qs = let more = parts_len-append ps qs in omega arith

pub written_cost : (from : ℕ) (rs : List Run) → AreRunsFrom from rs
    → 8 * length (listed rs) + parts_len (ranges rs) ≡ least_of_all rs
written_cost from [] h = omega arith
written_cost from (r ∷ rs) h =
    let more = written_cost (r.hi + 2) rs h.3 in
    elim (cases_lt r.hi (r.lo + 2)) [
      | inl lt ↦
          rw (ltb-yes lt) (let one = serials_len r h.1 lt in let both =
          length-append (serials_of r) (listed rs) in omega arith)
      | inr ge ↦ rw (le-ltb _ _ ge) (omega arith)
    ]
  where
    serials_len : (r : Run) → r.lo ≤ r.hi → r.hi < r.lo + 2 → length (serials_of r) ≡ (r.hi - r.lo) + 1
    serials_len r le lt = grind (arith, nat_tests)

pub no_listed : (rs : List Run) → how_short rs ≡ 0 → listed rs ≡ []
no_listed [] e = refl
no_listed (r ∷ rs) e = by_test (is_short r) (no_listed rs) refl e
  where
    by_test : (b : Bool) → (how_short rs ≡ 0 → listed rs ≡ []) → is_short r ≡ b → cond b 1 0 + how_short rs ≡ 0
        → listed (r ∷ rs) ≡ []
    by_test true rest is e = absurd (omega arith)
    by_test false rest is e = rw is (rest (omega arith))

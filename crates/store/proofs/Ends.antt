-- An interval merged with the runs that touch or overlap it, found from the last runs that begin before its ends.
use Rattle.store.proofs.Words.{AllByRecursion, Bool, IsLast, List, None, Option, RunRow, Some, [], all_has, ap, arith}
use Rattle.store.proofs.Words.{begins_between, both_ways, cases_Bool, cases_lt, false, filter, inl, inr, joined_high}
use Rattle.store.proofs.Words.{joined_low, max, min, nat_le, nat_tests, sym, true, ℕ, ◌&&◌, ◌+◌, ◌-◌, ◌<◌, ◌∙◌, ◌∷◌}
use Rattle.store.proofs.Words.{◌≡◌, ◌≤◌}
use Rattle.store_sql.proofs.LastRun.{Has, all_from, has_filtered, has_kept}
use Rattle.store.proofs.RunsApart.{AreApart}

-- from the least start of an interval and of runs up to the greatest end
abbrev pub spanning : ℕ → ℕ → List RunRow → RunRow
spanning lo hi [] = record { lo = lo; hi = hi }
spanning lo hi (r ∷ rs) = spanning (min lo r.lo) (max hi r.hi) rs

-- the run overlaps or touches the interval
abbrev pub touches : ℕ → ℕ → RunRow → Bool
touches lo hi q = nat_le (lo - 1) q.hi && nat_le q.lo (hi + 1)

-- ---- the least start and the greatest end

least_low : (lo hi : ℕ) (rs : List RunRow)
    → ((spanning lo hi rs).lo ≤ lo) × AllByRecursion (λ r. (spanning lo hi rs).lo ≤ r.lo) rs
least_low lo hi [] = (omega arith, tt)
least_low lo hi (r ∷ rs) =
    let later = least_low (min lo r.lo) (max hi r.hi) rs in
    let least : (spanning lo hi (r ∷ rs)).lo ≤ min lo r.lo = later.0 in
    (omega arith, (omega arith, later.1))

low_above : (m lo hi : ℕ) (rs : List RunRow) → m ≤ lo → AllByRecursion (λ r. m ≤ r.lo) rs → m ≤ (spanning lo hi rs).lo
low_above m lo hi [] le all = le
low_above m lo hi (r ∷ rs) le all = low_above m (min lo r.lo) (max hi r.hi) rs (omega (arith, all.0)) all.1

greatest_high : (lo hi : ℕ) (rs : List RunRow)
    → (hi ≤ (spanning lo hi rs).hi) × AllByRecursion (λ r. r.hi ≤ (spanning lo hi rs).hi) rs
greatest_high lo hi [] = (omega arith, tt)
greatest_high lo hi (r ∷ rs) =
    let later = greatest_high (min lo r.lo) (max hi r.hi) rs in
    let greatest : max hi r.hi ≤ (spanning lo hi (r ∷ rs)).hi = later.0 in
    (omega arith, (omega arith, later.1))

high_below : (m lo hi : ℕ) (rs : List RunRow) → hi ≤ m → AllByRecursion (λ r. r.hi ≤ m) rs → (spanning lo hi rs).hi ≤ m
high_below m lo hi [] le all = le
high_below m lo hi (r ∷ rs) le all = high_below m (min lo r.lo) (max hi r.hi) rs (omega (arith, all.0)) all.1

-- ---- the ends

does : (lo hi : ℕ) (q : RunRow) → touches lo hi q ≡ true → (lo ≤ q.hi + 1) × (q.lo ≤ hi + 1)
does lo hi q h = (grind (arith, nat_tests), grind (arith, nat_tests))

it_does : (lo hi : ℕ) (q : RunRow) → lo ≤ q.hi + 1 → q.lo ≤ hi + 1 → touches lo hi q ≡ true
it_does lo hi q low high = grind (arith, nat_tests)

is_begun : (run q : RunRow) → run.lo ≤ q.lo → q.lo ≤ run.hi → begins_between run q ≡ true
is_begun run q low high = grind (arith, nat_tests)

begun : (run q : RunRow) → begins_between run q ≡ true → (run.lo ≤ q.lo) × (q.lo ≤ run.hi)
begun run q h = (grind (arith, nat_tests), grind (arith, nat_tests))

below : (a b : ℕ) → nat_le a b ≡ true → a ≤ b
below a b h = grind (arith, nat_tests)

not_below : (a b : ℕ) → nat_le a b ≡ false → b < a
not_below a b h = grind (arith, nat_tests)

module _ (lo hi : ℕ) (rows : List RunRow) (apart : AreApart rows) (order : lo ≤ hi) where
  -- those that touch or overlap the interval
  abbrev pub near : List RunRow
  near = filter (touches lo hi) rows

  abbrev pub whole : RunRow
  whole = spanning lo hi near

  abbrev IsNear : RunRow → Type 0
  IsNear q = Has rows q × (lo ≤ q.hi + 1) × (q.lo ≤ hi + 1)

  near_has : (q : RunRow) → Has near q → IsNear q
  near_has q here =
      let it = has_filtered (touches lo hi) rows q here in
      let ends = does lo hi q it.1 in (it.0, ends.0, ends.1)

  begins_after : (m : ℕ) → m ≤ lo → ((q : RunRow) → IsNear q → m ≤ q.lo) → m ≤ whole.lo
  begins_after m le each =
      low_above m lo hi near le (all_from (λ q. m ≤ q.lo) near (λ q here. each q (near_has q here)))

  ends_before : (m : ℕ) → hi ≤ m → ((q : RunRow) → IsNear q → q.hi ≤ m) → whole.hi ≤ m
  ends_before m le each =
      high_below m lo hi near le (all_from (λ q. q.hi ≤ m) near (λ q here. each q (near_has q here)))

  within : (q : RunRow) → IsNear q → (whole.lo ≤ q.lo) × (q.hi ≤ whole.hi)
  within q is =
      let here = has_kept (touches lo hi) rows q is.0 (it_does lo hi q is.1 is.2) in (
        all_has (λ (r : RunRow). whole.lo ≤ r.lo) near q (least_low lo hi near).1 here,
        all_has (λ (r : RunRow). r.hi ≤ whole.hi) near q (greatest_high lo hi near).1 here,
      )

  one_end : (q x : RunRow) → Has rows q → Has rows x → q.lo ≡ x.lo → q.hi ≡ x.hi
  one_end q x here there same = ap (λ (r : RunRow). r.hi) ((apart q x here there).2 same)

  low_is : (o : Option RunRow) → IsLast lo rows o → whole.lo ≡ joined_low lo o
  low_is None last =
      let over = begins_after lo (omega arith) (λ q is.
      let above : lo < q.lo = all_has (λ (r : RunRow). lo < r.lo) rows q last is.0 in omega (arith, above)) in
      omega (arith, (least_low lo hi near).0, over)
  low_is (Some x) last = elim (cases_Bool (nat_le lo (x.hi + 1))) [
    | inl e ↦
        let under = within x (last.0, below lo (x.hi + 1) e, omega (arith, last.1, order)) in
        let over = begins_after x.lo last.1 (λ q is. elim (cases_lt q.lo x.lo) [
          | inl lt ↦ let gap = (apart q x is.0 last.0).1 lt in absurd (omega (arith, gap, is.1, last.1))
          | inr ge ↦ ge
        ]) in
        rw e (omega (arith, under.0, over))
    | inr e ↦
        let short = not_below lo (x.hi + 1) e in
        let over = begins_after lo (omega arith) (λ q is. elim (cases_lt q.lo lo) [
          | inl lt ↦
              let under = all_has (λ (r : RunRow). r.lo ≤ lo → r.lo ≤ x.lo) rows q last.2 is.0 (omega (arith, lt)) in
              elim (cases_lt q.lo x.lo) [
                | inl less ↦ let gap = (apart q x is.0 last.0).1 less in absurd (omega (arith, gap, is.1, last.1))
                | inr ge ↦ absurd (omega (arith, one_end q x is.0 last.0 (omega (arith, under, ge)), is.1, short))
              ]
          | inr ge ↦ ge
        ]) in
        rw e (omega (arith, (least_low lo hi near).0, over))
  ]

  high_is : (o : Option RunRow) → IsLast (hi + 1) rows o → whole.hi ≡ joined_high hi o
  high_is None last =
      let under = ends_before hi (omega arith) (λ q is.
      let above : hi + 1 < q.lo = all_has (λ (r : RunRow). hi + 1 < r.lo) rows q last is.0 in
      absurd (omega (arith, above, is.2))) in
      omega (arith, (greatest_high lo hi near).0, under)
  high_is (Some y) last =
      let least = (greatest_high lo hi near).0 in
      let under = ends_before (max hi y.hi) (omega arith) (λ q is.
      let before = all_has (λ (r : RunRow). r.lo ≤ hi + 1 → r.lo ≤ y.lo) rows q last.2 is.0 is.2 in
      elim (cases_lt q.lo y.lo) [
        | inl lt ↦ let gap = (apart q y is.0 last.0).1 lt in
            let some = (apart y q last.0 is.0).0 in omega (arith, gap, some)
        | inr ge ↦ omega (arith, one_end q y is.0 last.0 (omega (arith, before, ge)))
      ]) in
      let over : max hi y.hi ≤ whole.hi = elim (cases_lt (y.hi + 1) lo) [
        | inl lt ↦ omega (arith, lt, order, least)
        | inr ge ↦ omega (arith, (within y (last.0, ge, last.1)).1, least)
      ] in
      omega (arith, under, over)

  -- a run that begins within the merged run touches or overlaps the interval
  low_end : (o : Option RunRow) → IsLast lo rows o → (q : RunRow) → Has rows q → joined_low lo o ≤ q.lo → lo ≤ q.hi + 1
  low_end None last q here le = omega (arith, (apart q q here here).0, le)
  low_end (Some x) last q here le = elim (cases_Bool (nat_le lo (x.hi + 1))) [
    | inl e ↦
        let from : x.lo ≤ q.lo = rw e at le in
        elim (cases_lt lo q.lo) [
          | inl lt ↦ omega (arith, (apart q q here here).0, lt)
          | inr ge ↦
              let under = all_has (λ (r : RunRow). r.lo ≤ lo → r.lo ≤ x.lo) rows q last.2 here ge in
              let ends = one_end q x here last.0 (omega (arith, under, from)) in
              omega (arith, ends, below lo (x.hi + 1) e)
        ]
    | inr e ↦ let from : lo ≤ q.lo = rw e at le in omega (arith, (apart q q here here).0, from)
  ]

  high_end : (o : Option RunRow) → IsLast (hi + 1) rows o → (q : RunRow) → Has rows q → q.lo ≤ joined_high hi o
      → q.lo ≤ hi + 1
  high_end None last q here le = omega (arith, le)
  high_end (Some y) last q here le = elim (cases_lt (hi + 1) q.lo) [
    | inl lt ↦ let gap = (apart y q last.0 here).1 (omega (arith, lt, last.1)) in absurd (omega (arith, gap, le, lt))
    | inr ge ↦ ge
  ]

  pub whole_is : (o p : Option RunRow) → IsLast lo rows o → IsLast (hi + 1) rows p
      → whole ≡ record { lo = joined_low lo o; hi = joined_high hi p }
  whole_is o p low high = λ i. record { lo = low_is o low i; hi = high_is p high i }

  -- the runs that touch or overlap the interval are exactly those that begin within the merged run
  pub begin_within : (o p : Option RunRow) → IsLast lo rows o → IsLast (hi + 1) rows p → (q : RunRow) → Has rows q
      → touches lo hi q ≡ begins_between (record { lo = joined_low lo o; hi = joined_high hi p }) q
  begin_within o p low high q here =
      let run : RunRow = record { lo = joined_low lo o; hi = joined_high hi p } in
      elim (cases_Bool (touches lo hi q)) [
        | inl e ↦
            let ends = does lo hi q e in
            let in_whole = within q (here, ends.0, ends.1) in
            let some = (apart q q here here).0 in
            e ∙ sym (is_begun run q (omega (arith, in_whole.0, low_is o low))
            (omega (arith, in_whole.1, some, high_is p high)))
        | inr e ↦ elim (cases_Bool (begins_between run q)) [
          | inl f ↦
              let ends = begun run q f in
              absurd (both_ways (touches lo hi q) e
              (it_does lo hi q (low_end o low q here ends.0) (high_end p high q here ends.1)))
          | inr f ↦ e ∙ sym f
        ]
      ]

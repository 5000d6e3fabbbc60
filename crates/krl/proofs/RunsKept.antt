-- Serials of old runs that are in new runs.
use Rattle.krl.proofs.Words.{AreRuns, AreRunsFrom, List, None, Run, Some, [], ap, arith, cases_lt, contains}
use Rattle.krl.proofs.Words.{inl, inr, is_within, subst, sym, true, ℕ}
use Rattle.krl.proofs.Words.{◌+◌, ◌<◌, ◌||◌, ◌∙◌, ◌∷◌, ◌≡◌, ◌≤◌}
use Rattle.std.proofs.lemmas.Bool.{or_left}
use Rattle.krl.specs.Fronts.{AreSplit, behind_at, range_begin, run_at}
use Rattle.krl.proofs.Booleans.{clash, ends, is_in, is_over, or_cases, or_true}
use Rattle.krl.proofs.Maximal.{none_below}
use Rattle.krl.proofs.RunsRead.{first_read, none_read}

-- each serial of the old runs is in the new ones
abbrev pub AreKept : List Run → List Run → Type 0
AreKept rs qs = (n : ℕ) → contains rs n ≡ true → contains qs n ≡ true

-- All runs are kept if and only if the remaining ones are.
pub record StillKept (rs qs : List Run) (a b l m l' m' : List ℕ) : Type 0 where
  pub low : ℕ
  pub base : ℕ
  pub old : List Run
  pub new : List Run
  pub old_runs : AreRunsFrom low old
  pub new_runs : AreRunsFrom base new
  pub old_text : AreSplit l m old a
  pub new_text : AreSplit l' m' new b
  pub fewer : AreKept rs qs → AreKept old new
  pub whole : AreKept old new → AreKept rs qs

pub all_kept : (rs qs : List Run) (a b l m l' m' : List ℕ) → AreRuns rs → AreRuns qs → AreSplit l m rs a
    → AreSplit l' m' qs b → StillKept rs qs a b l m l' m'
all_kept rs qs a b l m l' m' h k s t = record {
  low = 0;
  base = 0;
  old = rs;
  new = qs;
  old_runs = h;
  new_runs = k;
  old_text = s;
  new_text = t;
  fewer = λ x. x;
  whole = λ x. x;
}

-- if no old run remains, all are kept
pub none_left : (rs qs : List Run) (a b l m l' m' : List ℕ) → StillKept rs qs a b l m l' m'
    → behind_at range_begin a ≡ None → run_at l m ≡ None → AreKept rs qs
none_left rs qs a b l m l' m' k none e =
    let no = none_read k.low l m k.old a k.old_runs none k.old_text e in
    k.whole (λ n is. absurd (cc (ap (λ os. contains os n) no.0, is)))

-- if an old run remains and no new one does, it isn't kept
pub none_over : (rs qs : List Run) (a b l m l' m' p o : List ℕ) (r : Run) → StillKept rs qs a b l m l' m'
    → behind_at range_begin a ≡ None → behind_at range_begin b ≡ None → run_at l m ≡ Some (r, (p, o))
    → run_at l' m' ≡ None → AreKept rs qs → ⊥
none_over rs qs a b l m l' m' p o r k none_a none_b e f kept =
    let old = first_read k.low l m p o r k.old a k.old_runs none_a k.old_text e in
    let new = none_read k.base l' m' k.new b k.new_runs none_b k.new_text f in
    let runs : AreRunsFrom k.low (r ∷ old.0) = subst (AreRunsFrom k.low) old.1 k.old_runs in
    let still : AreKept (r ∷ old.0) [] =
    λ n is. subst (λ qs. contains qs n ≡ true) new.0
    (k.fewer kept n (subst (λ os. contains os n ≡ true) (sym old.1) is)) in
    let in_old = or_left (is_within r.lo r) (contains old.0 r.lo) (is_in r.lo r.lo r.hi (omega arith) runs.1) in
    let bad = still r.lo in_old in
    absurd cc

-- a new run that ends below the first old one is skipped
pub passed : (rs qs : List Run) (a b l m l' m' p o s t : List ℕ) (r q : Run) → StillKept rs qs a b l m l' m'
    → behind_at range_begin a ≡ None → behind_at range_begin b ≡ None → run_at l m ≡ Some (r, (p, o))
    → run_at l' m' ≡ Some (q, (s, t)) → q.hi < r.lo → StillKept rs qs a b l m s t
passed rs qs a b l m l' m' p o s t r q k none_a none_b e f below =
    let old = first_read k.low l m p o r k.old a k.old_runs none_a k.old_text e in
    let new = first_read k.base l' m' s t q k.new b k.new_runs none_b k.new_text f in
    let runs : AreRunsFrom k.low (r ∷ old.0) = subst (AreRunsFrom k.low) old.1 k.old_runs in
    let others : AreRunsFrom k.base (q ∷ new.0) = subst (AreRunsFrom k.base) new.1 k.new_runs in
    record {
      low = k.low;
      base = q.hi + 2;
      old = k.old;
      new = new.0;
      old_runs = k.old_runs;
      new_runs = others.3;
      old_text = k.old_text;
      new_text = new.2;
      fewer = λ kept n is. elim (cases_lt n r.lo) [
        | inl lt ↦
            clash (contains k.old n) is (ap (λ os. contains os n) old.1
            ∙ none_below r.lo n (r ∷ old.0) (omega arith, runs.1, runs.2, runs.3) lt)
        | inr le ↦ sym (ap (λ x. x || contains new.0 n) (is_over n q.lo q.hi (omega arith)))
            ∙ sym (ap (λ ns. contains ns n) new.1) ∙ k.fewer kept n is
      ];
      whole = λ kept. k.whole (λ n is. ap (λ ns. contains ns n) new.1 ∙ rw (kept n is) (or_true (is_within n q)));
    }

-- an old run that is within a new one is kept
pub covered_one : (rs qs : List Run) (a b l m l' m' p o s t : List ℕ) (r q : Run) → StillKept rs qs a b l m l' m'
    → behind_at range_begin a ≡ None → behind_at range_begin b ≡ None → run_at l m ≡ Some (r, (p, o))
    → run_at l' m' ≡ Some (q, (s, t)) → q.lo ≤ r.lo → r.hi ≤ q.hi → StillKept rs qs a b p o l' m'
covered_one rs qs a b l m l' m' p o s t r q k none_a none_b e f lo hi =
    let old = first_read k.low l m p o r k.old a k.old_runs none_a k.old_text e in
    let new = first_read k.base l' m' s t q k.new b k.new_runs none_b k.new_text f in
    let runs : AreRunsFrom k.low (r ∷ old.0) = subst (AreRunsFrom k.low) old.1 k.old_runs in
    record {
      low = r.hi + 2;
      base = k.base;
      old = old.0;
      new = k.new;
      old_runs = runs.3;
      new_runs = k.new_runs;
      old_text = old.2;
      new_text = k.new_text;
      fewer = λ kept n is. k.fewer kept n (ap (λ os. contains os n) old.1 ∙ rw is (or_true (is_within n r)));
      whole = λ kept. k.whole
          (λ n is. elim (or_cases (is_within n r) (contains old.0 n) (sym (ap (λ os. contains os n) old.1) ∙ is)) [
            | inl here ↦ let both = ends n r.lo r.hi here in
                ap (λ ns. contains ns n) new.1
                ∙ or_left (is_within n q) (contains new.0 n) (is_in n q.lo q.hi (omega arith) (omega arith))
            | inr later ↦ kept n later.1
          ]);
    }

-- an old run that isn't within the new run that it reaches isn't kept
pub lost : (rs qs : List Run) (a b l m l' m' p o s t : List ℕ) (r q : Run) → StillKept rs qs a b l m l' m'
    → behind_at range_begin a ≡ None → behind_at range_begin b ≡ None → run_at l m ≡ Some (r, (p, o))
    → run_at l' m' ≡ Some (q, (s, t)) → r.lo ≤ q.hi → (q.lo ≤ r.lo → r.hi ≤ q.hi → ⊥) → AreKept rs qs → ⊥
lost rs qs a b l m l' m' p o s t r q k none_a none_b e f reaches over kept =
    let old = first_read k.low l m p o r k.old a k.old_runs none_a k.old_text e in
    let new = first_read k.base l' m' s t q k.new b k.new_runs none_b k.new_text f in
    let runs : AreRunsFrom k.low (r ∷ old.0) = subst (AreRunsFrom k.low) old.1 k.old_runs in
    let others : AreRunsFrom k.base (q ∷ new.0) = subst (AreRunsFrom k.base) new.1 k.new_runs in
    let still : AreKept (r ∷ old.0) (q ∷ new.0) = λ n is. sym (ap (λ ns. contains ns n) new.1)
    ∙ k.fewer kept n (ap (λ os. contains os n) old.1 ∙ is) in
    let has : (n : ℕ) → r.lo ≤ n → n ≤ r.hi
    → contains (q ∷ new.0) n ≡ true =
    λ n x y. still n (or_left (is_within n r) (contains old.0 n) (is_in n r.lo r.hi x y)) in
    let order : r.lo ≤ r.hi = runs.1 in
    elim (cases_lt r.lo q.lo) [
      | inl lt ↦ clash (contains (q ∷ new.0) r.lo) (has r.lo (omega arith) order)
          (none_below q.lo r.lo (q ∷ new.0) (omega arith, others.1, others.2, others.3) lt)
      | inr le ↦ elim (cases_lt q.hi r.hi) [
        | inl lt ↦ clash (contains (q ∷ new.0) (q.hi + 1)) (has (q.hi + 1) (omega arith) (omega arith))
            (ap (λ x. x || contains new.0 (q.hi + 1)) (is_over (q.hi + 1) q.lo q.hi (omega arith))
            ∙ none_below (q.hi + 2) (q.hi + 1) new.0 others.3 (omega arith))
        | inr ge ↦ over le ge
      ]
    ]

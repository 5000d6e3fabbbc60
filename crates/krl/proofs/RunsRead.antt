-- Reading runs to the end.
use Rattle.krl.proofs.Words.{AreRuns, AreRunsFrom, List, None, Option, Run, Some, [], append_assoc, ap, flat_map}
use Rattle.krl.proofs.Words.{listed_text, range_text, refl, same_Some, subst, sym, ℕ, ◌++◌, ◌+◌, ◌<◌, ◌^◌, ◌∙◌, ◌∷◌}
use Rattle.krl.proofs.Words.{◌≡◌}
use Rattle.krl.proofs.Words.{◌≤◌}
use Rattle.std.specs.Option.{option_map_or}
use Rattle.std.proofs.lemmas.List.{append-nil, flat_map_more}
use Rattle.krl.specs.Fronts.{AreSplit, behind_at, range_begin, run_at}
use Rattle.krl.proofs.RunLaws.{no_run, run_again}

-- the least serial with which the run after the last one may begin
abbrev pub least : Option Run → ℕ
least last = option_map_or (λ r. r.hi + 2) last 0

-- The runs read so far, and the runs that every reading of the whole has left after them.
pub record ReadSoFar (listed ranges : List ℕ) (last : Option Run) (l m : List ℕ) : Type 0 where
  pub done : List Run
  pub lawful : (rs : List Run) → AreRunsFrom (least last) rs → AreRuns (done ++ rs)
  pub listed_read : listed ≡ flat_map listed_text done ++ l
  pub ranges_read : ranges ≡ flat_map range_text done ++ m
  pub left : (rs : List Run) (after : List ℕ) → AreRuns rs → behind_at range_begin after ≡ None
      → AreSplit listed ranges rs after → (qs : List Run) × AreRunsFrom (least last) qs × AreSplit l m qs after

pub nothing_read : (listed ranges : List ℕ) → ReadSoFar listed ranges None listed ranges
nothing_read listed ranges = record {
  done = [];
  lawful = λ rs h. h;
  listed_read = refl;
  ranges_read = refl;
  left = λ rs after h none split. (rs, h, split);
}

-- the run that is read is the first of the remaining ones
pub first_read : (from : ℕ) (l m l' m' : List ℕ) (r : Run) (qs : List Run) (after : List ℕ) → AreRunsFrom from qs
    → behind_at range_begin after ≡ None → AreSplit l m qs after → run_at l m ≡ Some (r, (l', m'))
    → (ps : List Run) × (qs ≡ r ∷ ps) × AreSplit l' m' ps after
first_read from l m l' m' r [] after h none split e =
    let no = no_run after none in
    let same : run_at l m ≡ run_at [] after = (λ i. run_at (split.short i) (split.long i)) in
    absurd (cc (sym e ∙ same ∙ no))
first_read from l m l' m' r (q ∷ qs) after h none split e =
    let is = run_again from q qs after h none in
    let same = same_Some _ _ (sym is ∙ sym (λ i. run_at (split.short i) (split.long i)) ∙ e) in (
      qs,
      λ i. (same i).0 ∷ qs,
      record {
        short = sym (ap (λ (x : Run × (List ℕ × List ℕ)). x.1.0) same);
        long =
            sym (ap (λ (x : Run × (List ℕ × List ℕ)). x.1.1) same);
      },
    )

-- if no run is read, none remains
pub none_read : (from : ℕ) (l m : List ℕ) (qs : List Run) (after : List ℕ) → AreRunsFrom from qs
    → behind_at range_begin after ≡ None → AreSplit l m qs after → run_at l m ≡ None
    → (qs ≡ []) × (l ≡ []) × (m ≡ after)
none_read from l m [] after h none split e = (refl, split.short, split.long)
none_read from l m (q ∷ qs) after h none split e =
    absurd (cc (sym (run_again from q qs after h none) ∙ sym (λ i. run_at (split.short i) (split.long i)) ∙ e))

text_more : (text : Run → List ℕ) (xs : List Run) (x : Run) (rest : List ℕ)
    → flat_map text (xs ++ x ∷ []) ++ rest ≡ flat_map text xs ++ (text x ++ rest)
text_more text xs x rest =
    ap (λ t. t ++ rest) (sym (flat_map_more text [] xs x)) ∙ append_assoc (flat_map text xs) (text x) rest

-- one more run was read
pub one_more : (listed ranges l m l' m' : List ℕ) (last : Option Run) (r : Run) → ReadSoFar listed ranges last l m
    → least last ≤ r.lo → r.lo ≤ r.hi → r.hi < 2 ^ 64 → l ≡ listed_text r ++ l' → m ≡ range_text r ++ m'
    → run_at l m ≡ Some (r, (l', m')) → ReadSoFar listed ranges (Some r) l' m'
one_more listed ranges l m l' m' last r so low order small short long e = record {
  done = so.done ++ r ∷ [];
  lawful = λ rs h. subst AreRuns (sym (append_assoc so.done (r ∷ []) rs)) (so.lawful (r ∷ rs) (low, order, small, h));
  listed_read = so.listed_read ∙ ap (λ t. flat_map listed_text so.done ++ t) short
      ∙ sym (text_more listed_text so.done r l');
  ranges_read = so.ranges_read ∙ ap (λ t. flat_map range_text so.done ++ t) long
      ∙ sym (text_more range_text so.done r m');
  left = λ rs after h none split.
      let qs = so.left rs after h none split in
      let next = first_read (least last) l m l' m' r qs.0 after qs.1 none qs.2 e in
      let runs : AreRunsFrom (least last) (r ∷ next.0) = subst (AreRunsFrom (least last)) next.1 qs.1 in
      (next.0, runs.3, next.2);
}

-- a run that may not come after the last one is in no reading
pub out_of_order : (listed ranges l m l' m' : List ℕ) (last : Option Run) (r : Run) → ReadSoFar listed ranges last l m
    → (least last ≤ r.lo → ⊥) → run_at l m ≡ Some (r, (l', m')) → (rs : List Run) (after : List ℕ) → AreRuns rs
    → behind_at range_begin after ≡ None → AreSplit listed ranges rs after → ⊥
out_of_order listed ranges l m l' m' last r so high e rs after h none split =
    let qs = so.left rs after h none split in
    let next = first_read (least last) l m l' m' r qs.0 after qs.1 none qs.2 e in
    let runs : AreRunsFrom (least last) (r ∷ next.0) = subst (AreRunsFrom (least last)) next.1 qs.1 in
    high runs.0

-- all runs were read
pub all_read : (listed ranges l m : List ℕ) (last : Option Run) → ReadSoFar listed ranges last l m → l ≡ []
    → (rs : List Run) × AreRuns rs × AreSplit listed ranges rs m
all_read listed ranges l m last so none = (
  so.done,
  subst AreRuns (append-nil so.done) (so.lawful [] tt),
  record {
    short = so.listed_read ∙ ap (λ t. flat_map listed_text so.done ++ t) none
        ∙ append-nil (flat_map listed_text so.done);
    long = so.ranges_read;
  },
)

pub read_again : (listed ranges l m : List ℕ) (last : Option Run) → ReadSoFar listed ranges last l m
    → run_at l m ≡ None → (rs : List Run) (after : List ℕ) → AreRuns rs → behind_at range_begin after ≡ None
    → AreSplit listed ranges rs after → (l ≡ []) × (m ≡ after)
read_again listed ranges l m last so e rs after h none split =
    let qs = so.left rs after h none split in
    let end = none_read (least last) l m qs.0 after qs.1 none qs.2 e in
    (end.1, end.2)

-- Properties of the state and the stored requests after every history.
use Rattle.store.proofs.Words.{AreApart, Arrival, Err, First, IsOfHistory, IsOpening, Kept, List, Ok, Opening, Refusal}
use Rattle.store.proofs.Words.{Result, [], add_accepted, false, first_accepted, fold, has_key, holds_in_range}
use Rattle.store.proofs.Words.{is_kept_for, judged, judged_is_first, kept_by, kept_row, list_any, map-append}
use Rattle.store.proofs.Words.{nat_list_eq_equiv, or_parts, refl, revoked_is_issued, state_after, subst, sym}
use Rattle.store.proofs.Words.{with_arrival, ◌++◌, ◌∙◌, ◌∷◌, ◌≡◌}
use Rattle.std.proofs.lemmas.List.Folds.{list_any-append}
use Rattle.office.specs.History.{state}

turned : (j k : Kept) → is_kept_for j.caller j.key k ≡ is_kept_for k.caller k.key j
turned j k = rw (nat_list_eq_equiv.symm k.caller j.caller, nat_list_eq_equiv.symm k.key j.key) refl

-- one more request, with a new caller or a new request ID
apart_more : (kept : List Kept) (k : Kept) → AreApart kept → list_any (is_kept_for k.caller k.key) kept ≡ false
    → AreApart (kept ++ k ∷ [])
apart_more [] k apart none = (refl, tt)
apart_more (j ∷ kept) k apart none =
    let parts = or_parts (is_kept_for k.caller k.key j) (list_any (is_kept_for k.caller k.key) kept) none in
    let other : is_kept_for j.caller j.key k ≡ false = turned j k ∙ parts.0 in (
      list_any-append (is_kept_for j.caller j.key) kept (k ∷ []) ∙ rw (apart.0, other) refl,
      apart_more kept k apart.1 parts.1,
    )

apart_added : (o : Opening) (fs : List First) (a : Arrival) (r : Result First Refusal)
    → judged (state_after o fs) (kept_by fs) a ≡ r → AreApart (kept_by fs) → AreApart (kept_by (add_accepted fs r))
apart_added o fs a (Err e) is apart = apart
apart_added o fs a (Ok f) is apart =
    let first = judged_is_first (state_after o fs) (kept_by fs) a f is in
    let new : list_any (has_key f.arrival) (kept_by fs) ≡ false =
    subst (λ (x : Arrival). list_any (has_key x) (kept_by fs) ≡ false) (sym first.arrival) first.new in
    subst AreApart (sym (map-append kept_row fs (f ∷ []))) (apart_more (kept_by fs) (kept_row f) apart new)

apart_along : (o : Opening) (fs : List First) (l : List Arrival) → AreApart (kept_by fs)
    → AreApart (kept_by (fold (with_arrival o) fs l))
apart_along o fs [] apart = apart
apart_along o fs (a ∷ l) apart = apart_along o (with_arrival o fs a) l (apart_added o fs a _ refl apart)

-- no two requests stored after a history have the same caller and request ID
pub apart_after : (o : Opening) (l : List Arrival) → AreApart (kept_by (first_accepted o l))
apart_after o l = apart_along o [] l tt

-- the state and the requests after a history with a valid initial configuration
pub of_history : (o : Opening) (l : List Arrival) → IsOpening o
    → IsOfHistory (state o l) (kept_by (first_accepted o l))
of_history o l is = record {
  range = holds_in_range o l is;
  revoked = revoked_is_issued o l;
  apart = apart_after o l;
}

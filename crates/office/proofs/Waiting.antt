-- The pending certificates found batch by batch are those among all certificates.
use Rattle.office.proofs.Words.{AreRevocations, Bool, Certificate, List, Revocations, State, [], ap, ap₂, arith, cond}
use Rattle.office.proofs.Words.{false, is_none, length, map, not, refl, suc, sym, take, true, waiting_rows, zero, ℕ}
use Rattle.office.proofs.Words.{◌&&◌, ◌++◌, ◌+◌, ◌<◌, ◌∙◌, ◌∷◌, ◌≡◌, ◌≤◌}
use Rattle.std.proofs.Common.{get_or, drop}
use Rattle.std.proofs.Common.{filter}
use Rattle.std.specs.List.{flat_map}
use Rattle.std.proofs.lemmas.List.{flat_map_more, length-drop, length-take, take_all, take_more}
use Rattle.std.proofs.lemmas.List.Concat.{flat_map-append}
use Rattle.office.specs.declared.publication.Pending.{Pending}
use Rattle.office.specs.Listing.{batch_of, waiting_row}
use Rattle.office.specs.Publication.{is_pending, pending_of, pending_row}
use Rattle.office.proofs.Listed.{among_is}

-- ---- the rows of successive certificates

pub one_row_more : (r : Revocations) (cs : List Certificate) (i : ℕ) (c : Certificate) (before so_far now : List Pending)
    → i < length cs → c ≡ get_or cs i c → so_far ≡ before ++ waiting_rows r (take i cs) → now ≡ so_far ++ waiting_row r c
    → now ≡ before ++ waiting_rows r (take (i + 1) cs)
one_row_more r cs i c before so_far now lt is said more =
    let f = waiting_row r in
    more ∙ ap (λ (t : List Pending). t ++ f c) said ∙ flat_map_more f before (take i cs) c
    ∙ ap (λ (d : Certificate). before ++ flat_map f (take i cs ++ d ∷ [])) is
    ∙ ap (λ (ds : List Certificate). before ++ flat_map f ds) (sym (take_more cs i c lt))

-- ---- batches

-- taking the length of a batch gives the batch
short : {X : Type 0} (k : ℕ) (xs : List X) → take (length (take k xs)) xs ≡ take k xs
short zero xs = refl
short (suc k) [] = refl
short (suc k) (x ∷ xs) = ap (λ (ys : List _). x ∷ ys) (short k xs)

-- the elements before a place, and then a batch
pub split : {X : Type 0} (k place : ℕ) (xs : List X)
    → take (place + length (take k (drop place xs))) xs ≡ take place xs ++ take k (drop place xs)
split {X} k zero xs =
    let none : 0 + length (take k xs) ≡ length (take k xs) = omega arith in
    ap (λ (n : ℕ). take n xs) none ∙ short k xs
split {X} k (suc place) [] =
    let none : List X = [] in
    take_all (suc place + length (take k none)) none (omega arith) ∙ sym (take_all k none (omega arith))
split {X} k (suc place) (x ∷ xs) =
    let rest = take k (drop place xs) in
    let one : suc place + length rest ≡ suc (place + length rest) = omega arith in
    ap (λ (n : ℕ). take n (x ∷ xs)) one ∙ ap (λ (ys : List X). x ∷ ys) (split k place xs)

-- the pending rows before a place, and with one more batch
module _ (r : Revocations) (s : State) (place next : ℕ) (so_far now : List Pending)
    (fits : place ≤ length s.certificates)
    (said : so_far ≡ waiting_rows r (take place s.certificates))
    (behind : next ≡ place + length (batch_of s place))
    (more : now ≡ so_far ++ waiting_rows r (batch_of s place)) where
  pub one_batch_more : (next ≤ length s.certificates) × (now ≡ waiting_rows r (take next s.certificates))
  one_batch_more =
      let f = waiting_row r in
      let cs = s.certificates in
      let few = length-take 1000 (drop place cs) in
      let rest = length-drop place cs in
      let both : flat_map f (take next cs) ≡ flat_map f (take place cs) ++ flat_map f (batch_of s place) =
      ap (λ (n : ℕ). flat_map f (take n cs)) behind ∙ ap (flat_map f) (split 1000 place cs)
      ∙ flat_map-append f (take place cs) (batch_of s place) in (
        omega (arith, fits, behind, few, rest),
        more ∙ ap (λ (t : List Pending). t ++ flat_map f (batch_of s place)) said ∙ sym both,
      )

  -- if the batch is empty, the place is after all certificates
  pub place_is_end : next ≡ place → place ≡ length s.certificates
  place_is_end same =
      let few = length-take 1000 (drop place s.certificates) in
      let rest = length-drop place s.certificates in
      omega (arith, fits, behind, same, few, rest)

  -- and the rows found are those of all pending certificates
  pub all_batches : next ≡ place → now ≡ waiting_rows r s.certificates
  all_batches same =
      let cs = s.certificates in
      let ended = place_is_end same in
      let whole : take next cs ≡ cs = take_all next cs (omega (arith, same, ended)) in
      one_batch_more.1 ∙ ap (waiting_rows r) whole

-- ---- the state's pending certificates

module _ (r : Revocations) (s : State) (are : AreRevocations r s) where
  pub rows_are : (cs : List Certificate) → waiting_rows r cs ≡ map pending_row (filter (is_pending s) cs)
  rows_are [] = refl
  rows_are (c ∷ cs) =
      ap₂ (λ (b : Bool) (t : List Pending). cond (is_none c.signature && not b) (pending_row c ∷ []) [] ++ t)
      (among_is r s c are) (rows_are cs) ∙ by_test (is_pending s c)
    where
      by_test : (b : Bool) → cond b (pending_row c ∷ []) [] ++ map pending_row (filter (is_pending s) cs)
          ≡ map pending_row (cond b (c ∷ filter (is_pending s) cs) (filter (is_pending s) cs))
      by_test true = refl
      by_test false = refl

  -- the pending rows among all certificates are the state's
  pub pending_is : (rows : List Pending) → rows ≡ waiting_rows r s.certificates → rows ≡ pending_of s
  pending_is rows is = is ∙ rows_are s.certificates

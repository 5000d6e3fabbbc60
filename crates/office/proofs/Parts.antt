-- The parts of the published list, made from the revoked serials and the CAs.
use Rattle.office.proofs.Words.{Bool, Ca, List, State, [], ap, ap₂, arith, contains, false, is_last_reached, length}
use Rattle.office.proofs.Words.{next_serial, numbers, published_parts, refl, suc, sym, true, ℕ, ◌&&◌, ◌+◌, ◌<◌, ◌∙◌}
use Rattle.office.proofs.Words.{◌∷◌, ◌≡◌, ◌≤◌}
use Rattle.std.specs.Prelude.{slice_index_or}
use Rattle.std.proofs.lemmas.Bool.{and_right}
use Rattle.krl.specs.declared.run.Run.{Run}
use Rattle.krl.specs.declared.ca_part.CaPart.{CaPart}
use Rattle.krl.specs.Sets.{AreRuns, is_counted, runs_in}
use Rattle.krl.proofs.Counting.{are_counted, runs_in_only}
use Rattle.office.specs.Parts.{AreParts, AreSplitByCa, zipped}
use Rattle.office.specs.Publication.{is_revoked_under, parts_from}

-- only serials that were handed out are revoked
abbrev pub AreIssued : State → Type 0
AreIssued s = (n : ℕ) → s.revoked n ≡ true → (s.opening.first ≤ n) × (n < next_serial s)

-- for a set within those serials, the test for the range is implied
ordered : (a b c : Bool) → (b ≡ true → c ≡ true) → (a && b) ≡ (c && (b && a))
ordered true true c within = rw (within refl) refl
ordered false true c within = rw (within refl) refl
ordered a false c within = and_right a false refl ∙ sym (and_right c false refl)

-- the ranges of the serials that are revoked under the CA at a place
abbrev runs_under : State → ℕ → List Run
runs_under s k = runs_in (is_revoked_under s k) s.opening.first (length s.certificates)

-- the ranges in a split are those of the published part
run_of_part : (s : State) (serials : List Run) (split : List (List Run)) (k : ℕ) → AreSplitByCa split s.cas serials
    → ((n : ℕ) → contains serials n ≡ s.revoked n) → AreIssued s → k < length s.cas
    → AreRuns (slice_index_or split k []) → slice_index_or split k [] ≡ runs_under s k
run_of_part s serials split k are of issued there runs =
    let first = s.opening.first in
    let count = length s.certificates in
    runs_in_only (is_revoked_under s k) first count (slice_index_or split k []) runs (λ n. are.each k n there
    ∙ ap (λ (b : Bool). is_last_reached (numbers s.cas) k n && b) (of n)
    ∙ ordered (is_last_reached (numbers s.cas) k n) (s.revoked n) (is_counted first count n)
    (λ e. let is = issued n e in are_counted first count n is.0 is.1))

-- the parts of the CAs from a place on
parts_are : (s : State) (place : ℕ) (cas : List Ca) (split : List (List Run)) → length split ≡ length cas
    → ((k p : ℕ) → p ≡ place + k → k < length cas → slice_index_or split k [] ≡ runs_under s p)
    → zipped cas split ≡ parts_from s place cas
parts_are s place [] split same each = refl
parts_are s place (ca ∷ cas) [] same each = absurd (omega (arith, same))
parts_are s place (ca ∷ cas) (runs ∷ split) same each =
    ap₂ (λ (rs : List Run) (xs : List CaPart). record { ca = ca.key; runs = rs } ∷ xs)
    (each 0 place (omega arith) (omega arith)) (parts_are s (suc place) cas split (omega (arith, same))
    (λ k p at there. each (suc k) p (omega arith) (omega arith)))

-- if only serials that were handed out are revoked, the parts are the published ones
pub parts_are_published : (s : State) (serials : List Run) (parts : List CaPart) → AreParts parts s.cas serials
    → ((n : ℕ) → contains serials n ≡ s.revoked n) → AreIssued s → parts ≡ published_parts s
parts_are_published s serials parts (split, are, is) of issued =
    is ∙ parts_are s 0 s.cas split are.size (λ k p at there.
    let same : k ≡ p = omega arith in
    rw same (run_of_part s serials split p are of issued (omega arith) (are.runs p [] (omega (arith, are.size)))))

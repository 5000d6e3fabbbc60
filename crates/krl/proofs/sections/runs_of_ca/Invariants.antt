use Rattle.krl.proofs.Words.{AllByRecursion, CaPart, List, flat_map, length, ℕ, ◌≡◌}
use Rattle.krl.specs.Fronts.{IsWhole, runs_under, whole_text}
use Rattle.krl.proofs.sections.runs_of_ca.Given as goal

abbrev pub invariant-loop-section : goal.invariant-loop-section
invariant-loop-section l =
    (ids : List ℕ) (cas : List CaPart) → AllByRecursion (IsWhole ids) cas
    → l.fn.sections ≡ flat_map (whole_text ids) cas
    → (left : List CaPart) × AllByRecursion (IsWhole ids) left × (l.left ≡ flat_map (whole_text ids) left)
    × (runs_under ids l.fn.ca cas ≡ runs_under ids l.fn.ca left)

abbrev pub decreases-loop-section : goal.decreases-loop-section
decreases-loop-section l = length l.left

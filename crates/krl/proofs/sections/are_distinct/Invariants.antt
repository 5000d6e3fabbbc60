use Rattle.krl.proofs.Words.{AllByRecursion, CaPart, List, flat_map, length, ℕ, ◌≡◌}
use Rattle.std.specs.Prelude.{◌↔◌}
use Rattle.krl.specs.Published.{AreDistinctCas}
use Rattle.krl.specs.Fronts.{IsWhole, whole_text}
use Rattle.krl.proofs.sections.are_distinct.Given as goal

abbrev pub invariant-loop-section : goal.invariant-loop-section
invariant-loop-section l =
    (ids : List ℕ) (cas : List CaPart) → AllByRecursion (IsWhole ids) cas
    → l.fn.sections ≡ flat_map (whole_text ids) cas
    → (left : List CaPart) × AllByRecursion (IsWhole ids) left × (l.left ≡ flat_map (whole_text ids) left)
    × (AreDistinctCas cas ↔ AreDistinctCas left)

abbrev pub decreases-loop-section : goal.decreases-loop-section
decreases-loop-section l = length l.left

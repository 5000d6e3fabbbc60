use Rattle.krl.proofs.Words.{AllByRecursion, CaPart, List, flat_map, length, ℕ, ◌≡◌}
use Rattle.std.specs.Prelude.{◌↔◌}
use Rattle.krl.specs.Fronts.{ArePartsKept, IsWhole, whole_text}
use Rattle.krl.proofs.published.keeps_sections.Given as goal

abbrev pub invariant-loop-section : goal.invariant-loop-section
invariant-loop-section l =
    (a b : List ℕ) (cas others : List CaPart) → AllByRecursion (IsWhole a) cas → AllByRecursion (IsWhole b) others
    → l.fn.old ≡ flat_map (whole_text a) cas → l.fn.new ≡ flat_map (whole_text b) others
    → (left : List CaPart) × AllByRecursion (IsWhole a) left × (l.left ≡ flat_map (whole_text a) left)
    × (ArePartsKept cas others ↔ ArePartsKept left others)

abbrev pub decreases-loop-section : goal.decreases-loop-section
decreases-loop-section l = length l.left

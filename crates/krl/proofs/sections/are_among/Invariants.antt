use Rattle.krl.proofs.Words.{AllByRecursion, CaPart, List, bytes_eq, flat_map, length, list_all, list_any, ℕ, ◌≡◌}
use Rattle.krl.specs.Fronts.{IsWhole, whole_text}
use Rattle.krl.proofs.sections.are_among.Given as goal

abbrev pub invariant-loop-section : goal.invariant-loop-section
invariant-loop-section l =
    (ids : List ℕ) (cas : List CaPart) → AllByRecursion (IsWhole ids) cas
    → l.fn.sections ≡ flat_map (whole_text ids) cas
    → (left : List CaPart) × AllByRecursion (IsWhole ids) left × (l.left ≡ flat_map (whole_text ids) left)
    × (list_all (λ p. list_any (λ k. bytes_eq k p.ca) l.fn.keys) cas
    ≡ list_all (λ p. list_any (λ k. bytes_eq k p.ca) l.fn.keys) left)

abbrev pub decreases-loop-section : goal.decreases-loop-section
decreases-loop-section l = length l.left

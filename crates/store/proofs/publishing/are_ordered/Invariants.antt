use Rattle.store.proofs.Words.{are_ordered, drop, ◌≡◌}
use Rattle.store.proofs.publishing.are_ordered.Given as goal

abbrev pub invariant-loop-ca : goal.invariant-loop-ca
invariant-loop-ca l = are_ordered 0 l.cas ≡ are_ordered l.last (drop l.ca-index l.cas)

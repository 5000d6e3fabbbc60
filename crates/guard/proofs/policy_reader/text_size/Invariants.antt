use Rattle.std.proofs.Common.{◌≡◌, ◌≤◌, ◌+◌, drop, map}
use Rattle.guard.specs.Policies.{text_size}
use Rattle.guard.proofs.policy_reader.text_size.Given as goal

abbrev pub invariant-loop-piece : goal.invariant-loop-piece
invariant-loop-piece l = record {
  size : l.size + text_size (map (λ x. x.now) (drop l.piece-index l.pieces)) ≡ text_size (map (λ x. x.now) l.pieces);
  counted : l.size ≡ l.piece-index;
}

use Rattle.std.proofs.Common.{◌≡◌, ◌+◌, ◌≤◌, [], length, map}
use Rattle.guard.specs.Policies.{policy_from}
use Rattle.guard.proofs.policy_reader.departments_in.Given as goal

abbrev pub invariant-loop-rest : goal.invariant-loop-rest
invariant-loop-rest l = record {
  counted : l.number + length l.rest ≡ length l.pieces + 1;
  started : 1 ≤ l.number;
  left : policy_from l.left l.number l.departments.items (map (λ x. x.now) l.rest)
      ≡ policy_from 0 1 [] (map (λ x. x.now) l.pieces);
}

abbrev pub decreases-loop-rest : goal.decreases-loop-rest
decreases-loop-rest l = length l.rest

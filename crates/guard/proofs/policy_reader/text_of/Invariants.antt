use Rattle.std.proofs.Common.{◌≡◌, ◌++◌, ◌-◌, map}
use Rattle.guard.specs.Policies.{text_of}
use Rattle.guard.proofs.policy_reader.text_of.Given as goal

abbrev pub invariant-loop-line : goal.invariant-loop-line
invariant-loop-line l =
    l.text.items ++ text_of (l.size - l._line) (map (λ x. x.now) l.rest) ≡ text_of l.size (map (λ x. x.now) l.pieces)

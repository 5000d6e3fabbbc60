use Rattle.std.proofs.Common.{◌+◌, ◌*◌, ◌^◌, ◌≤◌, length}
use Rattle.krl.specs.Format.{IsPart, part_text}
use Rattle.list_guard.specs.Sizes.{part_size}
use Rattle.list_guard.proofs.Counted.{CountsOn}
use Rattle.list_guard.proofs.counting.parts_size.Given as goal

-- the parts before the cursor are counted
abbrev pub invariant-loop-left : goal.invariant-loop-left
invariant-loop-left l =
    CountsOn part_text IsPart part_size l.fn.parts l.left l.size
    × (l.size + 2 ^ 64 * length l.left ≤ 2 ^ 64 * length l.fn.parts)

abbrev pub decreases-loop-left : goal.decreases-loop-left
decreases-loop-left l = length l.left

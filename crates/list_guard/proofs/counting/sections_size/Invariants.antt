use Rattle.std.proofs.Common.{◌+◌, ◌*◌, ◌^◌, ◌≤◌, length}
use Rattle.krl.specs.Format.{IsSection, section_text}
use Rattle.list_guard.specs.Sizes.{section_size}
use Rattle.list_guard.proofs.Counted.{CountsOn}
use Rattle.list_guard.proofs.counting.sections_size.Given as goal

-- the sections before the cursor are counted
abbrev pub invariant-loop-left : goal.invariant-loop-left
invariant-loop-left l =
    CountsOn section_text IsSection section_size l.sections l.left l.size
    × (l.size + 2 ^ 64 * length l.left ≤ 2 ^ 64 * length l.sections)

abbrev pub decreases-loop-left : goal.decreases-loop-left
decreases-loop-left l = length l.left

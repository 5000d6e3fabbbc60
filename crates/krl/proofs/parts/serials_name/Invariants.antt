use Rattle.krl.proofs.Words.{IsU64, length, u64_text, ◌==◌}
use Rattle.krl.proofs.Items.{SoFar}
use Rattle.krl.proofs.parts.serials_name.Given as goal

abbrev pub invariant-loop-cursor : goal.invariant-loop-cursor
invariant-loop-cursor l = SoFar u64_text IsU64 (λ n. l.serial == n) l.bytes l.cursor l.named

abbrev pub decreases-loop-cursor : goal.decreases-loop-cursor
decreases-loop-cursor l = length l.cursor

use Rattle.krl.proofs.Words.{IsBytes, IsReadPart, length, names, part_text}
use Rattle.krl.proofs.Items.{SoFar}
use Rattle.krl.proofs.parts.read_parts.Given as goal

abbrev pub invariant-loop-cursor : goal.invariant-loop-cursor
invariant-loop-cursor l = record {
  bytes_left : IsBytes l.cursor;
  so_far : SoFar part_text IsReadPart (names l.serial l.key_id) l.initial.cursor l.cursor l.named;
}

abbrev pub decreases-loop-cursor : goal.decreases-loop-cursor
decreases-loop-cursor l = length l.cursor

use Rattle.krl.proofs.Words.{IsBytes, IsString, bytes_eq, length, string_text}
use Rattle.krl.proofs.Items.{SoFar}
use Rattle.krl.proofs.parts.key_ids_name.Given as goal

abbrev pub invariant-loop-cursor : goal.invariant-loop-cursor
invariant-loop-cursor l = record {
  bytes_left : IsBytes l.cursor;
  so_far : SoFar string_text IsString (λ i. bytes_eq i l.key_id) l.bytes l.cursor l.named;
}

abbrev pub decreases-loop-cursor : goal.decreases-loop-cursor
decreases-loop-cursor l = length l.cursor

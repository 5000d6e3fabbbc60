use Rattle.krl.proofs.Words.{IsBytes, IsReadSection, length, section_revokes, section_text}
use Rattle.krl.proofs.Items.{SoFar}
use Rattle.krl.proofs.reader.read_sections.Given as goal

abbrev pub invariant-loop-cursor : goal.invariant-loop-cursor
invariant-loop-cursor l = record {
  bytes_left : IsBytes l.cursor;
  so_far : SoFar section_text IsReadSection
      (section_revokes l.blob l.serial l.key_id) l.initial.cursor l.cursor l.revoked;
}

abbrev pub decreases-loop-cursor : goal.decreases-loop-cursor
decreases-loop-cursor l = length l.cursor

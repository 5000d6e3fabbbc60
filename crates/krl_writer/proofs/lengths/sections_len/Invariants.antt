use Rattle.krl.proofs.Words.{fits, section_length, sum_by, take, true, ◌*◌, ◌+◌, ◌≡◌, ◌≤◌}
use Rattle.krl_writer.proofs.lengths.sections_len.Given as goal

abbrev pub invariant-loop-part : goal.invariant-loop-part
invariant-loop-part l = record {
  so_far : l.len ≡ 44 + sum_by (section_length l.ids) (take l.part-index l.parts);
  small : l.len ≤ 44 + 4294967300 * l.part-index;
  fit : fits (take l.part-index l.parts) l.ids ≡ true;
}

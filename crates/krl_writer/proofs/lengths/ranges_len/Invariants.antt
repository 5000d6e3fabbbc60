use Rattle.krl.proofs.Words.{range_length, sum_by, take, ◌≡◌, ◌≤◌}
use Rattle.krl_writer.proofs.lengths.ranges_len.Given as goal

abbrev pub invariant-loop-run : goal.invariant-loop-run
invariant-loop-run l = record {
  so_far : l.len ≡ sum_by range_length (take l.run-index l.runs);
  small : l.len ≤ 4294967295;
}

use Rattle.krl.proofs.Words.{listed_length, sum_by, take, ◌≡◌, ◌≤◌}
use Rattle.krl_writer.proofs.lengths.listed_len.Given as goal

abbrev pub invariant-loop-run : goal.invariant-loop-run
invariant-loop-run l = record {
  so_far : l.len ≡ sum_by listed_length (take l.run-index l.runs);
  small : l.len ≤ 4294967295;
}

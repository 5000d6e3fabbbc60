use Rattle.store.proofs.Words.{All, runs_of, take, ◌<◌, ◌^◌, ◌≡◌}
use Rattle.store.proofs.reads.runs.runs_of.Given as goal

abbrev pub invariant-loop-row : goal.invariant-loop-row
invariant-loop-row l = record {
  runs_so_far : l.runs.items ≡ runs_of (take l.row-index l.rows);
  small_so_far : All (λ r. r.hi < 2 ^ 63) l.runs.items;
}

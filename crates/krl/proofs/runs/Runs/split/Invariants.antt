use Rattle.krl.proofs.Words.{All, AreRuns, [], contains, get_or, is_last_reached, ℕ, ◌&&◌, ◌<◌, ◌≡◌}
use Rattle.std.proofs.Common.{vec_len}
use Rattle.krl.proofs.runs.Runs.split.Given as goal

abbrev pub invariant-loop-place : goal.invariant-loop-place
invariant-loop-place l = record {
  places : vec_len l.parts ≡ l.place;
  runs_so_far : All AreRuns l.parts.items;
  parts_so_far : (k n : ℕ) → k < l.place
      → contains (get_or l.parts.items k []) n ≡ (is_last_reached l.since k n && contains l.self n);
}

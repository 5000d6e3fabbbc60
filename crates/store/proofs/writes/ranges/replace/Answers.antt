use Rattle.store.proofs.TransactionParts.{written_then}
use Rattle.store.proofs.writes.ranges.replace.Goals as goal

pub returns : goal.returns
returns g c = written_then c.in_ok-delete_runs.ensures c.insert_run.ensures (λ d why. why)

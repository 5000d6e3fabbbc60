use Rattle.store.proofs.Reading.{of_state, reading_failed}
use Rattle.store.proofs.Serving.{shows_ordered}
use Rattle.store.proofs.Sorting.{asked}
use Rattle.store.proofs.publishing.read_serving_cas.Goals as goal

pub returns-clause-reads : goal.returns-clause-reads
returns-clause-reads g c =
    let one = of_state c.in_ok-cas.ensures in
    record {
      shows = λ clean. shows_ordered _ _ c.in_ok-cas.cas c.ordered.result c.ordered.ensures (one.shows clean);
      reads = λ clean. asked _ _ (one.reads clean) c.ordered.result;
      survives = one.survives;
    }

pub returns-in_err-cas-clause-reads : goal.returns-in_err-cas-clause-reads
returns-in_err-cas-clause-reads g c = reading_failed (of_state c.in_err-cas.ensures) c.from_residual.ensures.1

use Rattle.store.proofs.Showing.{asks_both, asks_failed}
use Rattle.std.proofs.Common.{refl}
use Rattle.store.proofs.reads.concerning.with_cas.Goals as goal

pub returns-in-Ok : goal.returns-in-Ok
returns-in-Ok g c =
    let rest = c.with_subject.ensures in
    record {
      asks = asks_both c.in-Ok.ensures.asks rest.asks
          (λ s kept y lawful first rest history office cas. rest history office cas (first history));
      lawful = rest.lawful;
    }

pub returns-in-Err-clause-asks : goal.returns-in-Err-clause-asks
returns-in-Err-clause-asks g c = asks_failed c.in-Err.ensures.asks refl

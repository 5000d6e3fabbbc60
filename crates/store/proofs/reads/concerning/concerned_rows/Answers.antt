use Rattle.store.proofs.Showing.{asks_both, asks_weaker, asks_failed}
use Rattle.store.proofs.reads.concerning.concerned_rows.Goals as goal

pub returns : goal.returns
returns g c =
    let rest = c.with_office.ensures in
    record {
      asks = asks_both c.in_ok-office.ensures.asks (asks_weaker rest.asks (λ _. tt) (λ s kept rows lawful are. are))
          (λ s kept y lawful first rest history. rest history first);
      lawful = rest.lawful;
    }

pub returns-in_err-office-clause-asks : goal.returns-in_err-office-clause-asks
returns-in_err-office-clause-asks g c = asks_failed c.in_err-office.ensures.asks c.from_residual.ensures.1

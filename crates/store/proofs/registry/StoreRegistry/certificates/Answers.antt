use Rattle.store.proofs.Answering.{answered}
use Rattle.store.proofs.registry.StoreRegistry.certificates.Goals as goal

pub returns-clause-preserves : goal.returns-clause-preserves
returns-clause-preserves g c =
    let t = answered c.told.ensures c.read_batch.ensures in
    assumption t

pub returns-clause-stays_open : goal.returns-clause-stays_open
returns-clause-stays_open g c = (answered c.told.ensures c.read_batch.ensures).stays_open

pub returns-clause-row : goal.returns-clause-row
returns-clause-row g c = (answered c.told.ensures c.read_batch.ensures).row

pub returns-clause-cause : goal.returns-clause-cause
returns-clause-cause g c = (answered c.told.ensures c.read_batch.ensures).cause

pub returns-clause-only : goal.returns-clause-only
returns-clause-only g c = (answered c.told.ensures c.read_batch.ensures).only

use Rattle.store.proofs.Answering.{answered}
use Rattle.store.proofs.Reading.{of_state}
use Rattle.store.proofs.registry.StoreRegistry.cas.Goals as goal

pub returns : goal.returns
returns g c =
    let t = answered c.told.ensures (of_state c.read_cas.ensures) in
    assumption t

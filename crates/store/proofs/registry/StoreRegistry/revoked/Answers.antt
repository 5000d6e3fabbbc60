use Rattle.store.proofs.Answering.{answered}
use Rattle.store.proofs.registry.StoreRegistry.revoked.Goals as goal

pub returns : goal.returns
returns g c =
    let t = answered c.told.ensures c.read_revoked.ensures in
    assumption t

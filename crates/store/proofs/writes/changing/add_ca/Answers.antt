use Rattle.store.proofs.TransactionParts.{written}
use Rattle.store.proofs.writes.changing.add_ca.Goals as goal

pub returns : goal.returns
returns g c = rw (c.in_ok-row.ensures) at (written c.insert_ca.ensures)

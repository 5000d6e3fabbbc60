use Rattle.store.proofs.PutInPlace.{life_fits}
use Rattle.store.proofs.TransactionParts.{written}
use Rattle.store.proofs.writes.changing.change_department.Goals as goal

pub department_row-requires : goal.department_row-requires
department_row-requires g c = life_fits c.args.department.now c.requires

pub returns : goal.returns
returns g c = rw (c.in_ok-row.ensures) at (written c.put_department.ensures)

use Rattle.store_sql.proofs.FirstTable.{former_offices, means_offices}
use Rattle.store_sql.proofs.offices.the_office_is_first.Goals as goal

pub returns : goal.returns
returns c = record { former = former_offices; present = means_offices }

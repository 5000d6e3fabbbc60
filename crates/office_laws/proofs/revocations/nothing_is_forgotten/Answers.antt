use Rattle.office_laws.proofs.Named.{serials_stay, key_ids_stay}
use Rattle.office_laws.proofs.revocations.nothing_is_forgotten.Goals as goal

pub returns-clause-serials : goal.returns-clause-serials
returns-clause-serials c = serials_stay

pub returns-clause-key_ids : goal.returns-clause-key_ids
returns-clause-key_ids c = key_ids_stay

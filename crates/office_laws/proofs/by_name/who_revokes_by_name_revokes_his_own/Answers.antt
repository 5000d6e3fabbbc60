use Rattle.office_laws.proofs.Own.{key_id_of_listed, range_of_root, serial_own}
use Rattle.office_laws.proofs.by_name.who_revokes_by_name_revokes_his_own.Goals as goal

pub returns-clause-serial : goal.returns-clause-serial
returns-clause-serial c = serial_own

pub returns-clause-range : goal.returns-clause-range
returns-clause-range c = range_of_root

pub returns-clause-key_id : goal.returns-clause-key_id
returns-clause-key_id c = key_id_of_listed

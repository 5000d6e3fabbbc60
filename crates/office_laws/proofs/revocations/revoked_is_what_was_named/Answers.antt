use Rattle.office_laws.proofs.Named.{serials_are_named, key_ids_are_named}
use Rattle.office_laws.proofs.revocations.revoked_is_what_was_named.Goals as goal

pub returns-clause-serials : goal.returns-clause-serials
returns-clause-serials c = serials_are_named

pub returns-clause-key_ids : goal.returns-clause-key_ids
returns-clause-key_ids c = key_ids_are_named

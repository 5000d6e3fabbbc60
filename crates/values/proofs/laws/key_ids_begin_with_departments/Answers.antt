use Rattle.values.proofs.NameLemmas.{key_id_found, key_id_from}
use Rattle.values.proofs.laws.key_ids_begin_with_departments.Goals as goal

pub returns-clause-found : goal.returns-clause-found
returns-clause-found c = key_id_found c.args.text.now

pub returns-clause-only : goal.returns-clause-only
returns-clause-only c = λ k. (key_id_from c.args.text.now c.args.department.now k).0

pub returns-clause-department : goal.returns-clause-department
returns-clause-department c = λ k. (key_id_from c.args.text.now c.args.department.now k).1

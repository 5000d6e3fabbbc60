use Rattle.std.proofs.Common.{sym, ap, ◌∙◌}
use Rattle.office.specs.Publication.{departments_of}
use Rattle.memory_store.proofs.Places.{values-entries}
use Rattle.memory_store.proofs.registry.PlainStoreRegistry.departments.Goals as goal

pub returns-clause-row : goal.returns-clause-row
returns-clause-row c honest o l m = c.in_ok-department_rows.ensures ∙ sym (values-entries c.args.self.now.departments) ∙ ap departments_of m.is_state

use Rattle.std.proofs.Common.{sym, ◌∙◌}
use Rattle.store.proofs.OneOffice.{opening_from}
use Rattle.store.proofs.rows.office_rows.is_opening.Goals as goal

pub returns-clause-lawful : goal.returns-clause-lawful
returns-clause-lawful c = λ size passed. opening_from c.args.opening.now size (sym c.passes.ensures ∙ passed)

use Rattle.web.proofs.Formed.{table_said}
use Rattle.web.proofs.report.table_beside.Goals as goal

pub returns-clause-form : goal.returns-clause-form
returns-clause-form g c =
    let said = c.in_ok-count.ensures.form in (
      said.0,
      table_said c.args.revocations.now said.0 c.in_ok-count.count c.args.version _ _ _ c.new-report.ensures.items said.1
          c.in_ok-put_total.ensures,
    )

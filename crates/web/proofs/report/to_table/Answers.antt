use Rattle.web.proofs.Words.{ap, preserves_both, state, table_report}
use Rattle.krl.specs.declared.krl_head.KrlHead.{KrlHead}
use Rattle.http_requests.specs.declared.resource.Resource.TheVariants.{Table}
use Rattle.http_requests.specs.declared.response.MediaType.TheVariants.{PlainText}
use Rattle.http_requests.specs.Responses.{response_text}
use Rattle.web.specs.Forms.{MayShow}
use Rattle.web.proofs.Formed.{of_text}
use Rattle.web.proofs.Shown.{memory_cause, memory_only}
use Rattle.web.proofs.Reported.{shows_report, whole_table}
use Rattle.web.proofs.report.to_table.Goals as goal

pub returns-clause-row : goal.returns-clause-row
returns-clause-row g c h =
    let second = c.table_beside.ensures.preserves.honest h in
    let first = c.revocations.ensures.preserves.honest second in
    let r = c.in_ok-revocations.revocations in
    shows_report c.around.result c.in_ok-report.report.items table_report (g.R.Registry.means c.args.registry.now)
    (λ o l m.
    let found = c.revoked.ensures.preserves.same first o l m in
    let version = ap (λ (head : KrlHead). head.version) (c.in_ok-version.ensures.row first o l m).head in
    whole_table r (state o l) (c.in_ok-revocations.ensures.row second o l found) c.in_ok-version.field-0.head.version
    c.in_ok-report.report.items version
    (c.in_ok-report.ensures.row h o l (c.revocations.ensures.preserves.same second o l found)))
    c.around.ensures.ok

pub returns-clause-cause : goal.returns-clause-cause
returns-clause-cause g c h = memory_cause c.around.result _ c.around.ensures.err

pub returns-clause-only : goal.returns-clause-only
returns-clause-only g c h = memory_only c.around.result _ c.around.ensures.err

pub returns-in_err-revocations-clause-preserves : goal.returns-in_err-revocations-clause-preserves
returns-in_err-revocations-clause-preserves g c =
    preserves_both g.met.R.Registry.through c.revoked.ensures.preserves c.revocations.ensures.preserves

pub returns-in_err-report-clause-preserves : goal.returns-in_err-report-clause-preserves
returns-in_err-report-clause-preserves g c =
    preserves_both g.met.R.Registry.through (preserves_both g.met.R.Registry.through c.revoked.ensures.preserves
    c.revocations.ensures.preserves) c.table_beside.ensures.preserves

pub returns-clause-preserves : goal.returns-clause-preserves
returns-clause-preserves g c =
    preserves_both g.met.R.Registry.through (preserves_both g.met.R.Registry.through c.revoked.ensures.preserves
    c.revocations.ensures.preserves) c.table_beside.ensures.preserves

pub returns-clause-form : goal.returns-clause-form
returns-clause-form g c =
    let said = c.in_ok-report.ensures.form in
    of_text c.around.result _ (MayShow Table) c.around.ensures.ok (
      c.in_ok-revocations.revocations,
      said.0,
      c.in_ok-version.field-0.head.version,
      ap (response_text 200 PlainText) said.1,
    )

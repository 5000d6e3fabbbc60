use Rattle.std.proofs.Common.{ap, ◌∙◌}
use Rattle.http_requests.specs.declared.resource.Resource.TheVariants.{Pending}
use Rattle.http_requests.specs.declared.response.MediaType.TheVariants.{PlainText}
use Rattle.http_requests.specs.Responses.{response_text}
use Rattle.web.specs.Forms.{MayShow}
use Rattle.web.specs.Reports.{pending_lines, pending_report}
use Rattle.web.proofs.Formed.{of_text}
use Rattle.web.proofs.Shown.{memory_cause, memory_only}
use Rattle.web.proofs.Reported.{shows_report}
use Rattle.web.proofs.certificate_lines.to_pending.Goals as goal

pub returns-clause-row : goal.returns-clause-row
returns-clause-row g c h =
    shows_report c.around.result c.in_ok-report.report.items pending_report (g.R.Registry.means c.args.registry.now)
    (λ o l m. c.in_ok-report.ensures ∙ ap pending_lines (c.deref.ensures.value
    ∙ c.in_ok-rows.ensures.row h o l m)) c.around.ensures.ok

pub returns-clause-cause : goal.returns-clause-cause
returns-clause-cause g c h = memory_cause c.around.result _ c.around.ensures.err

pub returns-clause-only : goal.returns-clause-only
returns-clause-only g c h = memory_only c.around.result _ c.around.ensures.err

pub returns-clause-form : goal.returns-clause-form
returns-clause-form g c =
    of_text c.around.result _ (MayShow Pending) c.around.ensures.ok
    (c.deref.result.now, ap (response_text 200 PlainText) c.in_ok-report.ensures)

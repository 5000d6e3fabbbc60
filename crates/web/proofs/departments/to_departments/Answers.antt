use Rattle.std.proofs.Common.{ap}
use Rattle.http_requests.specs.declared.resource.Resource.TheVariants.{Departments}
use Rattle.http_requests.specs.declared.response.MediaType.TheVariants.{PlainText}
use Rattle.http_requests.specs.Responses.{response_text}
use Rattle.web.specs.Forms.{MayShow}
use Rattle.web.proofs.Formed.{of_text}
use Rattle.web.proofs.Shown.{memory_cause, memory_only}
use Rattle.web.proofs.departments.to_departments.Goals as goal

pub returns-clause-cause : goal.returns-clause-cause
returns-clause-cause g c = memory_cause c.around.result _ c.around.ensures.err

pub returns-clause-only : goal.returns-clause-only
returns-clause-only g c h = memory_only c.around.result _ c.around.ensures.err

pub returns-clause-form : goal.returns-clause-form
returns-clause-form g c =
    of_text c.around.result _ (MayShow Departments) c.around.ensures.ok
    (c.deref.result.now, ap (response_text 200 PlainText) c.in_ok-report.ensures)

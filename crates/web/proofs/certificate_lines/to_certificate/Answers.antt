use Rattle.web.proofs.Words.{None, Some, refl, state, sym, ◌∙◌}
use Rattle.http_requests.specs.declared.resource.Resource.TheVariants.{Certificate}
use Rattle.office.specs.Publication.{issued_of}
use Rattle.web.specs.Forms.{MayShow}
use Rattle.web.proofs.Formed.{of_text}
use Rattle.web.specs.Answers.{certificate_response}
use Rattle.web.proofs.Shown.{memory_cause, memory_only, shows}
use Rattle.web.proofs.certificate_lines.to_certificate.Goals as goal

pub returns-in-Some-clause-row : goal.returns-in-Some-clause-row
returns-in-Some-clause-row g c h =
    shows c.to_line.result certificate_response (Some c.in-Some.issued) (λ o l. issued_of (state o l) c.args.serial) _
    (λ o l m. sym c.in-Some.is ∙ c.in_ok-issued.ensures.row h o l m) c.to_line.ensures.ok

pub returns-in-None-clause-row : goal.returns-in-None-clause-row
returns-in-None-clause-row g c h =
    shows c.to_refusal.result certificate_response None (λ o l. issued_of (state o l) c.args.serial) _
    (λ o l m. sym c.in-None.is ∙ c.in_ok-issued.ensures.row h o l m) c.to_refusal.ensures.ok

pub returns-in-Some-clause-cause : goal.returns-in-Some-clause-cause
returns-in-Some-clause-cause g c = memory_cause c.to_line.result _ c.to_line.ensures.err

pub returns-in-None-clause-cause : goal.returns-in-None-clause-cause
returns-in-None-clause-cause g c = memory_cause c.to_refusal.result _ c.to_refusal.ensures.err

pub returns-in-Some-clause-only : goal.returns-in-Some-clause-only
returns-in-Some-clause-only g c h = memory_only c.to_line.result _ c.to_line.ensures.err

pub returns-in-None-clause-only : goal.returns-in-None-clause-only
returns-in-None-clause-only g c h = memory_only c.to_refusal.result _ c.to_refusal.ensures.err

pub returns-in-Some-clause-form : goal.returns-in-Some-clause-form
returns-in-Some-clause-form g c =
    of_text c.to_line.result _ (MayShow (Certificate c.args.serial)) c.to_line.ensures.ok (Some c.in-Some.issued, refl)

pub returns-in-None-clause-form : goal.returns-in-None-clause-form
returns-in-None-clause-form g c =
    of_text c.to_refusal.result _ (MayShow (Certificate c.args.serial)) c.to_refusal.ensures.ok (None, refl)

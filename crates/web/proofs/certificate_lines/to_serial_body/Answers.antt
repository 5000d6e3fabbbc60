use Rattle.web.proofs.Words.{List, None, Some, ap, refl, state, sym, ℕ, ◌∙◌}
use Rattle.http_requests.specs.declared.resource.Resource.TheVariants.{Body}
use Rattle.office.specs.State.{body_of}
use Rattle.web.specs.Forms.{MayShow}
use Rattle.web.proofs.Formed.{of_text}
use Rattle.web.specs.Answers.{body_response}
use Rattle.web.proofs.Shown.{memory_cause, memory_only, shows}
use Rattle.web.proofs.certificate_lines.to_serial_body.Goals as goal

pub returns-in-Some-clause-row : goal.returns-in-Some-clause-row
returns-in-Some-clause-row g c h =
    shows c.to_body.result body_response (Some c.as_slice.result.now) (λ o l. body_of (state o l) c.args.serial) _
    (λ o l m. ap (λ (body : List ℕ). Some body) c.as_slice.ensures ∙ (sym c.in-Some.is ∙ c.in_ok-body.ensures.row h o l m)) c.to_body.ensures.ok

pub returns-in-None-clause-row : goal.returns-in-None-clause-row
returns-in-None-clause-row g c h =
    shows c.to_refusal.result body_response None (λ o l. body_of (state o l) c.args.serial) _
    (λ o l m. sym c.in-None.is ∙ c.in_ok-body.ensures.row h o l m) c.to_refusal.ensures.ok

pub returns-in-Some-clause-cause : goal.returns-in-Some-clause-cause
returns-in-Some-clause-cause g c = memory_cause c.to_body.result _ c.to_body.ensures.err

pub returns-in-None-clause-cause : goal.returns-in-None-clause-cause
returns-in-None-clause-cause g c = memory_cause c.to_refusal.result _ c.to_refusal.ensures.err

pub returns-in-Some-clause-only : goal.returns-in-Some-clause-only
returns-in-Some-clause-only g c h = memory_only c.to_body.result _ c.to_body.ensures.err

pub returns-in-None-clause-only : goal.returns-in-None-clause-only
returns-in-None-clause-only g c h = memory_only c.to_refusal.result _ c.to_refusal.ensures.err

pub returns-in-Some-clause-form : goal.returns-in-Some-clause-form
returns-in-Some-clause-form g c =
    of_text c.to_body.result _ (MayShow (Body c.args.serial)) c.to_body.ensures.ok (Some c.as_slice.result.now, refl)

pub returns-in-None-clause-form : goal.returns-in-None-clause-form
returns-in-None-clause-form g c =
    of_text c.to_refusal.result _ (MayShow (Body c.args.serial)) c.to_refusal.ensures.ok (None, refl)

use Rattle.std.proofs.Common.{refl}
use Rattle.office.proofs.Registers.{preserves_both}
use Rattle.http_requests.specs.declared.resource.Resource.TheVariants.{Signers}
use Rattle.web.specs.Forms.{MayShow}
use Rattle.web.proofs.Formed.{of_text}
use Rattle.web.proofs.Shown.{memory_cause, memory_only}
use Rattle.web.proofs.publishing.to_signers.Goals as goal

pub returns-clause-cause : goal.returns-clause-cause
returns-clause-cause g c h = memory_cause c.signers_response.result _ c.signers_response.ensures.err

pub returns-clause-only : goal.returns-clause-only
returns-clause-only g c h = memory_only c.signers_response.result _ c.signers_response.ensures.err

pub returns-in_err-cas-clause-preserves : goal.returns-in_err-cas-clause-preserves
returns-in_err-cas-clause-preserves g c =
    preserves_both g.met.R.Registry.through c.departments.ensures.preserves c.cas.ensures.preserves

pub returns-clause-preserves : goal.returns-clause-preserves
returns-clause-preserves g c =
    preserves_both g.met.R.Registry.through c.departments.ensures.preserves c.cas.ensures.preserves

pub returns-clause-form : goal.returns-clause-form
returns-clause-form g c =
    of_text c.signers_response.result _ (MayShow Signers) c.signers_response.ensures.ok (c.deref.result.now, c.deref-2.result.now, refl)

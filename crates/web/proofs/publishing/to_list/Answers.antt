use Rattle.std.proofs.Common.{length}
use Rattle.web.proofs.Formed.{list_form}
use Rattle.web.proofs.Lists.{few_parts, list_cause, list_only}
use Rattle.web.proofs.publishing.to_list.Goals as goal

pub returns-clause-cause : goal.returns-clause-cause
returns-clause-cause g c = list_cause c.list_response.result (length c.in_ok-revoked.revoked.parts.items) _ c.list_response.ensures.err

pub returns-clause-only : goal.returns-clause-only
returns-clause-only g c honest =
    list_only c.list_response.result (length c.in_ok-revoked.revoked.parts.items) (g.R.Registry.means c.args.registry.now)
    c.list_response.ensures.err (λ o l m. few_parts o l c.in_ok-revoked.revoked (c.in_ok-revoked.ensures.row honest o l m))

pub returns-clause-form : goal.returns-clause-form
returns-clause-form g c =
    let revoked = c.in_ok-revoked.revoked in
    list_form c.list_response.result revoked.head revoked.parts.items revoked.key_ids c.list_response.ensures.ok
    c.list_response.ensures.fits

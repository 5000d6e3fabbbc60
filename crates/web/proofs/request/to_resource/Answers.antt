use Rattle.web.proofs.Shown.{cause_at_once, cause_weaker, cause_within}
use Rattle.web.proofs.request.to_resource.Goals as goal

pub returns-in-Certificate-clause-cause : goal.returns-in-Certificate-clause-cause
returns-in-Certificate-clause-cause g c h =
    cause_within g.R.Registry.means g.R.Registry.fails _ _ c.to_certificate.result c.to_certificate.ensures.cause

pub returns-in-Body-clause-cause : goal.returns-in-Body-clause-cause
returns-in-Body-clause-cause g c h =
    cause_within g.R.Registry.means g.R.Registry.fails _ _ c.to_serial_body.result c.to_serial_body.ensures.cause

pub returns-in-RevocationList-clause-cause : goal.returns-in-RevocationList-clause-cause
returns-in-RevocationList-clause-cause g c h =
    cause_within g.R.Registry.means g.R.Registry.fails _ _ c.to_list.result c.to_list.ensures.cause

pub returns-in-Cas-clause-cause : goal.returns-in-Cas-clause-cause
returns-in-Cas-clause-cause g c h =
    cause_within g.R.Registry.means g.R.Registry.fails _ _ c.to_cas.result c.to_cas.ensures.cause

pub returns-in-Departments-clause-cause : goal.returns-in-Departments-clause-cause
returns-in-Departments-clause-cause g c h =
    cause_within g.R.Registry.means g.R.Registry.fails _ _ c.to_departments.result c.to_departments.ensures.cause

pub returns-in-Signers-clause-cause : goal.returns-in-Signers-clause-cause
returns-in-Signers-clause-cause g c h =
    cause_weaker g.R.Registry.is_open g.R.Registry.is_as_before g.R.Registry.means g.R.Registry.fails _ _
    c.to_signers.result (c.to_signers.ensures.cause h)

pub returns-in-Table-clause-cause : goal.returns-in-Table-clause-cause
returns-in-Table-clause-cause g c h =
    cause_weaker g.R.Registry.is_open g.R.Registry.is_as_before g.R.Registry.means g.R.Registry.fails _ _
    c.to_table.result (c.to_table.ensures.cause h)

pub returns-in-Certificate-clause-plain : goal.returns-in-Certificate-clause-plain
returns-in-Certificate-clause-plain g c h other =
    cause_at_once g.R.Registry.is_open g.R.Registry.is_as_before g.R.Registry.means g.R.Registry.fails _ _
    c.to_certificate.result (g.met.R.Registry.unasked c.args.registry.now) c.to_certificate.ensures.cause

pub returns-in-Body-clause-plain : goal.returns-in-Body-clause-plain
returns-in-Body-clause-plain g c h other =
    cause_at_once g.R.Registry.is_open g.R.Registry.is_as_before g.R.Registry.means g.R.Registry.fails _ _
    c.to_serial_body.result (g.met.R.Registry.unasked c.args.registry.now) c.to_serial_body.ensures.cause

pub returns-in-RevocationList-clause-plain : goal.returns-in-RevocationList-clause-plain
returns-in-RevocationList-clause-plain g c h other =
    cause_at_once g.R.Registry.is_open g.R.Registry.is_as_before g.R.Registry.means g.R.Registry.fails _ _
    c.to_list.result (g.met.R.Registry.unasked c.args.registry.now) c.to_list.ensures.cause

pub returns-in-Cas-clause-plain : goal.returns-in-Cas-clause-plain
returns-in-Cas-clause-plain g c h other =
    cause_at_once g.R.Registry.is_open g.R.Registry.is_as_before g.R.Registry.means g.R.Registry.fails _ _
    c.to_cas.result (g.met.R.Registry.unasked c.args.registry.now) c.to_cas.ensures.cause

pub returns-in-Departments-clause-plain : goal.returns-in-Departments-clause-plain
returns-in-Departments-clause-plain g c h other =
    cause_at_once g.R.Registry.is_open g.R.Registry.is_as_before g.R.Registry.means g.R.Registry.fails _ _
    c.to_departments.result (g.met.R.Registry.unasked c.args.registry.now) c.to_departments.ensures.cause

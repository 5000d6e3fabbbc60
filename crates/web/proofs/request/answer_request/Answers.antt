use Rattle.web.proofs.Words.{Keeps, arrival_by, inl, inr, refl}
use Rattle.web.proofs.Shown.{always_ok, cause_as, memory_cause, memory_only, not_pending, on_err}
use Rattle.web.proofs.Answered.{of_arrival, of_refusal, of_resource}
use Rattle.web.proofs.request.answer_request.Goals as goal

pub returns-in-Refused-clause-answered : goal.returns-in-Refused-clause-answered
returns-in-Refused-clause-answered g c honest bytes asks =
    of_refusal c.to_refusal.result c.in-Refused.refusal (g.R.Registry.means c.args.registry.now)
    (Keeps g.R.Registry.means g.R.Registry.is_open c.args.registry.now) bytes c.args.moment c.args.nonce.now
    (rw c.in-Refused.is at asks) c.to_refusal.ensures.ok

pub returns-in-Get-clause-answered : goal.returns-in-Get-clause-answered
returns-in-Get-clause-answered g c honest bytes asks =
    let called = c.to_resource in
    of_resource called.result c.in-Get.resource (g.R.Registry.means c.args.registry.now)
    (g.R.Registry.means called.new.registry) (g.R.Registry.is_open called.new.registry)
    bytes c.args.moment c.args.nonce.now (rw c.in-Get.is at asks)
    (g.met.R.Registry.lawful c.args.registry.now) (called.ensures.row honest) (called.ensures.fits honest)
    (called.ensures.preserves.same honest) (called.ensures.stays_open honest)

pub returns-in-Post-clause-answered : goal.returns-in-Post-clause-answered
returns-in-Post-clause-answered g c honest bytes asks =
    let called = c.to_arrival in
    of_arrival called.result
    (arrival_by c.in-Post.caller c.in-Post.key c.in-Post.message c.args.moment c.args.nonce.now)
    (g.R.Registry.means c.args.registry.now) (g.R.Registry.means called.new.registry)
    (g.R.Registry.is_open called.new.registry) bytes c.args.moment
    c.args.nonce.now c.in-Post.caller c.in-Post.key c.in-Post.message (rw c.in-Post.is at asks)
    refl (called.ensures.due honest) (called.ensures.next honest) (called.ensures.stays_open honest)

pub returns-in-Refused-clause-cause : goal.returns-in-Refused-clause-cause
returns-in-Refused-clause-cause g c honest bytes asks = memory_cause c.to_refusal.result _ c.to_refusal.ensures.err

pub returns-in-Get-clause-cause : goal.returns-in-Get-clause-cause
returns-in-Get-clause-cause g c honest bytes asks =
    cause_as c.to_resource.result _ _ (λ f. inl f) (c.to_resource.ensures.cause honest)

pub returns-in-Refused-clause-only : goal.returns-in-Refused-clause-only
returns-in-Refused-clause-only g c honest = memory_only c.to_refusal.result _ c.to_refusal.ensures.err

pub returns-in-Post-clause-cause : goal.returns-in-Post-clause-cause
returns-in-Post-clause-cause g c honest bytes asks =
    let post = rw c.in-Post.is at asks in
    cause_as c.to_arrival.result _ _
    (λ stopped. inr (c.in-Post.caller, c.in-Post.key, c.in-Post.message, post, stopped)) c.to_arrival.ensures.cause

pub returns-in-Refused-clause-before : goal.returns-in-Refused-clause-before
returns-in-Refused-clause-before g c honest is =
    on_err c.to_refusal.result _ (g.met.R.Registry.unasked c.args.registry.now)

pub returns-in-Refused-clause-reads : goal.returns-in-Refused-clause-reads
returns-in-Refused-clause-reads g c honest is none = g.met.R.Registry.unasked c.args.registry.now

pub returns-in-Refused-clause-refused : goal.returns-in-Refused-clause-refused
returns-in-Refused-clause-refused g c honest =
    always_ok c.to_refusal.result _ (λ v refused is. g.met.R.Registry.unasked c.args.registry.now)

pub returns-in-Get-clause-refused : goal.returns-in-Get-clause-refused
returns-in-Get-clause-refused g c honest =
    always_ok c.to_resource.result _ (λ v refused is. c.to_resource.ensures.preserves.before honest is)

pub returns-in-Get-clause-before : goal.returns-in-Get-clause-before
returns-in-Get-clause-before g c honest is =
    on_err c.to_resource.result _ (c.to_resource.ensures.preserves.before honest is)

pub returns-in-Post-clause-reads : goal.returns-in-Post-clause-reads
returns-in-Post-clause-reads g c honest is none = absurd (rw c.in-Post.is at none)

pub returns-in-Refused-clause-plain : goal.returns-in-Refused-clause-plain
returns-in-Refused-clause-plain g c honest plain = absurd (rw c.in-Refused.is at plain)

pub returns-in-Get-clause-plain : goal.returns-in-Get-clause-plain
returns-in-Get-clause-plain g c honest plain =
    c.to_resource.ensures.plain honest (not_pending c.in-Get.resource (rw c.in-Get.is at plain))

pub returns-in-Post-clause-plain : goal.returns-in-Post-clause-plain
returns-in-Post-clause-plain g c honest plain = absurd (rw c.in-Post.is at plain)

use Rattle.std.proofs.Common.{ℕ, ◌+◌, ◌-◌, refl, sym, ap, ◌∙◌}
use Rattle.message.specs.declared.kinds.Message.TheVariants as message
use Rattle.office.specs.declared.view.Change.TheVariants as change
use Rattle.office.proofs.Growth.{length-signed_at}
use Rattle.office.proofs.Decisions.{unpublished_decided}
use Rattle.office.proofs.delivering.decide_delivery.Goals as goal

pub returns-clause-decided : goal.returns-clause-decided
returns-clause-decided c s agrees moment nonce =
    let d = c.args.delivery.now in
    unpublished_decided c.args.view.now s (message.Deliver d) c.args.caller.now moment nonce agrees
    (sym (c.refusal_of_delivery.ensures s agrees) ∙ c.in_default.is) (change.Signature d.serial d.signature)
    c.in_ok-reply.reply c.unpublished.result c.unpublished.ensures refl c.in_ok-reply.ensures
    (ap (λ (n : ℕ). s.opening.first + n)
    (sym (length-signed_at s.certificates (d.serial - s.opening.first) d.signature)))

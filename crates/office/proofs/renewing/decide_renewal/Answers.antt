use Rattle.office.proofs.Words.{HasRoom, Some, ap, option_copied, refl, sym, ◌∙◌, ◌≡◌}
use Rattle.message.specs.declared.kinds.Message.TheVariants as message
use Rattle.office.specs.State.{certificate_of}
use Rattle.office.proofs.Decisions.{certified_decided, made_so, renewed_by, renewed_by_view, serial_left}
use Rattle.office.proofs.renewing.decide_renewal.Goals as goal

pub returns-clause-decided : goal.returns-clause-decided
returns-clause-decided c s agrees =
    let v = c.args.view.now in
    let r = c.args.renewal.now in
    let nonce = c.args.nonce.now in
    let old = c.in-Some-certificate.old.now in
    let there : certificate_of s r.serial ≡ Some old =
    sym agrees.certificate ∙ ap option_copied c.in-Some-certificate.is in
    certified_decided v s (message.Renew r) c.args.caller.now c.args.moment nonce agrees
    (sym (c.refusal_of_renewal.ensures.least s agrees) ∙ c.in_default.is)
    c.renewed.result _ (renewed_by s r old nonce) c.renewed.ensures.made (renewed_by_view v s r old nonce agrees)
    (rw there refl) (rw there refl)

pub returns-clause-room : goal.returns-clause-room
returns-clause-room c s agrees =
    made_so (λ d. HasRoom d.change s) c.renewed.result _ c.renewed.ensures.made
    (serial_left c.args.view.now s (message.Renew c.args.renewal.now) agrees
    (c.refusal_of_renewal.ensures.left c.in_default.is))

pub returns-clause-version : goal.returns-clause-version
returns-clause-version c =
    made_so (λ d. d.version ≡ c.args.view.now.version) c.renewed.result _ c.renewed.ensures.made refl

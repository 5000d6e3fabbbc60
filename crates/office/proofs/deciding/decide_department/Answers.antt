use Rattle.office.proofs.Words.{ap, department_reply, refl, sym, ◌∙◌}
use Rattle.message.specs.declared.kinds.Message.TheVariants as message
use Rattle.office.specs.declared.view.Change.TheVariants as change
use Rattle.office.proofs.Decisions.{step_refused, unpublished_decided}
use Rattle.office.proofs.deciding.decide_department.Goals as goal

pub returns-in-Some-clause-decided : goal.returns-in-Some-clause-decided
returns-in-Some-clause-decided c s agrees moment nonce =
    step_refused s c.args.caller.now (message.Department c.args.department.now) moment nonce c.in-Some.refusal
    (sym (c.refusal_of_department.ensures s agrees) ∙ c.in-Some.is)

pub returns-clause-decided : goal.returns-clause-decided
returns-clause-decided c s agrees moment nonce =
    let d = c.args.department.now in
    unpublished_decided c.args.view.now s (message.Department d) c.args.caller.now moment nonce agrees
    (sym (c.refusal_of_department.ensures s agrees) ∙ c.in_default.is) (change.Department d) c.in_ok-reply.reply
    c.unpublished.result (c.unpublished.ensures ∙ rw c.in_ok-copied.ensures refl) refl
    (c.in_ok-reply.ensures ∙ ap department_reply c.as_slice.ensures) refl

use Rattle.office.proofs.Words.{HasRoom, Some, ap, department_named, issued, option_copied, refl, sym, ◌∙◌, ◌≡◌}
use Rattle.message.specs.declared.kinds.Message.TheVariants as message
use Rattle.office.proofs.Decisions.{certified_decided, issued_by_view, made_so, serial_left}
use Rattle.office.proofs.deciding.decide_issue.Goals as goal

pub returns-clause-decided : goal.returns-clause-decided
returns-clause-decided c s agrees =
    let v = c.args.view.now in
    let i = c.args.issue.now in
    let nonce = c.args.nonce.now in
    let d = c.in-Some-department.department.now in
    let is : department_named s i.department ≡ Some d =
    sym agrees.department ∙ ap option_copied c.in-Some-department.is in
    certified_decided v s (message.Issue i) c.args.caller.now c.args.moment nonce agrees
    (sym (c.refusal_of_issue.ensures.least s agrees) ∙ c.in_default.is)
    c.issued.result _ (issued s i nonce) c.issued.ensures.made (issued_by_view v s i d nonce agrees is) refl refl

pub returns-clause-room : goal.returns-clause-room
returns-clause-room c s agrees =
    made_so (λ d. HasRoom d.change s) c.issued.result _ c.issued.ensures.made
    (serial_left c.args.view.now s (message.Issue c.args.issue.now) agrees
    (c.refusal_of_issue.ensures.left c.in_default.is))

pub returns-clause-version : goal.returns-clause-version
returns-clause-version c =
    made_so (λ d. d.version ≡ c.args.view.now.version) c.issued.result _ c.issued.ensures.made refl

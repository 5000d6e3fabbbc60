use Rattle.std.proofs.Common.{Some, ap, subst, sym, ◌∙◌}
use Rattle.guard.specs.declared.verdict.Verdict.{Verdict}
use Rattle.guard.specs.Decided.{Decided}
use Rattle.guard.specs.Machine.{body_of, after}
use Rattle.guard.proofs.Allowed.{signed_kept}
use Rattle.guard.proofs.judging.answer_of.Goals as goal

pub returns-in-Approve-clause-kept : goal.returns-in-Approve-clause-kept
returns-in-Approve-clause-kept c s q fields body serial read decided =
    let is = subst (λ (v : Verdict). Decided v s q fields) c.in-Approve.is decided in
    ap (body_of (after s q)) (sym serial) ∙ signed_kept s q fields is.0 read ∙ ap Some body

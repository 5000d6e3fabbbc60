use Rattle.std.proofs.Common.{ap, sym, ◌∙◌}
use Rattle.std.specs.Prelude.{not, option_copied}
use Rattle.guard.specs.Decided.{question}
use Rattle.guard.proofs.Refused.{not_permitted}
use Rattle.guard.proofs.deciding.refusal_of_new.Goals as goal

pub returns-then-not-permits : goal.returns-then-not-permits
returns-then-not-permits c = λ s body kept.
    not_permitted s (question c.args.policy.now c.args.window body) c.args.fields.now c.in-Some.department.now kept (sym c.department_for.ensures ∙ ap option_copied c.in-Some.is) (sym c.has_other_kind.ensures ∙ c.if-has_other_kind.false) (ap not (sym c.permits.ensures ∙ c.if-not-permits.true))

use Rattle.store.proofs.Words.{ap, department_named, option_copied, sym, ◌∙◌}
use Rattle.office.proofs.Agreeing.{department_of_concerned}
use Rattle.store.proofs.Gathered.{department_found}
use Rattle.store.proofs.Showing.{asks_weaker, asks_nothing}
use Rattle.store.proofs.reads.subject.department_of.Goals as goal

pub returns-in-Some-default-clause-asks : goal.returns-in-Some-default-clause-asks
returns-in-Some-default-clause-asks g c =
    asks_weaker c.find_department.ensures.asks (λ _. tt) (λ s kept found lawful is same.
    is ∙ ap (department_named s) c.as_slice.ensures
    ∙ sym (department_of_concerned s c.args.message.now c.in-Some-default.certificate.now
    (sym same ∙ ap option_copied c.in-Some-default.is-0)))

pub returns-in-None-Some-clause-asks : goal.returns-in-None-Some-clause-asks
returns-in-None-Some-clause-asks g c =
    asks_weaker c.find_department-in-None-Some.ensures.asks (λ _. tt) (λ s kept found lawful is same.
    is ∙ department_found s c.args.message.now _ (sym same ∙ ap option_copied c.in-None-Some.is-0)
    (sym c.concerned.ensures.department ∙ ap option_copied c.in-None-Some.is-1))

pub returns-in-None-None-clause-asks : goal.returns-in-None-None-clause-asks
returns-in-None-None-clause-asks g c =
    asks_nothing (λ s kept lawful same.
    department_found s c.args.message.now _ (sym same ∙ ap option_copied c.in-None-None.is-0)
    (sym c.concerned.ensures.department ∙ ap option_copied c.in-None-None.is-1))

use Rattle.store.proofs.Words.{ap, option_and_then, sym, ◌∙◌}
use Rattle.store.proofs.Gathered.{certificate_found}
use Rattle.store.proofs.Showing.{asks_weaker, asks_nothing}
use Rattle.office.specs.State.{certificate_of as certificate_at}
use Rattle.store.proofs.reads.subject.certificate_of.Goals as goal

pub returns-in-Some-clause-asks : goal.returns-in-Some-clause-asks
returns-in-Some-clause-asks g c =
    asks_weaker c.find_certificate.ensures.asks (λ _. tt) (λ s kept found lawful is history.
    certificate_found s c.args.message.now c.in-Some.serial found
    (sym c.concerned.ensures.serial ∙ c.in-Some.is) (is history))

pub returns-in-None-clause-asks : goal.returns-in-None-clause-asks
returns-in-None-clause-asks g c =
    asks_nothing (λ s kept lawful history.
    ap (option_and_then (certificate_at s)) (sym (sym c.concerned.ensures.serial ∙ c.in-None.is)))

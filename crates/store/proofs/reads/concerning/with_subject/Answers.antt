use Rattle.std.proofs.Common.{◌∙◌, refl}
use Rattle.store.proofs.Showing.{asks_shown, asks_failed}
use Rattle.store.proofs.reads.concerning.with_subject.Goals as goal

pub returns-in-Ok-clause-asks : goal.returns-in-Ok-clause-asks
returns-in-Ok-clause-asks g c =
    asks_shown c.in-Ok.ensures (λ s kept lawful marks history office cas subject. record {
      office = office;
      cas = cas;
      subject = subject;
      marks = marks history (c.as_ref.ensures.value ∙ subject.certificate);
    })

pub returns-in-Ok-clause-lawful : goal.returns-in-Ok-clause-lawful
returns-in-Ok-clause-lawful g c = record { office = c.requires.office; subject = c.requires.subject }

pub returns-in-Err-clause-asks : goal.returns-in-Err-clause-asks
returns-in-Err-clause-asks g c = asks_failed c.in-Err.ensures refl

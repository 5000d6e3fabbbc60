use Rattle.office.proofs.Words.{Certificate, HasRoom, IsSome, Option, subst}
use Rattle.office.proofs.Decisions.{made_so, serial_of_one}
use Rattle.office.proofs.revoking.decide_serial.Goals as goal

pub returns-clause-room : goal.returns-clause-room
returns-clause-room c s agrees =
    made_so (λ d. HasRoom d.change s) c.with_range.result _ c.with_range.ensures
    (serial_of_one s c.args.serial
    (subst (λ (x : Option Certificate). IsSome x) agrees.certificate (c.refusal_of_serial.ensures.there c.in_default.is)))

use Rattle.std.proofs.Common.{Err, inr, refl}
use Rattle.sshstation.proofs.command.init.Goals as goal

pub returns-in-Err-clause-inits : goal.returns-in-Err-clause-inits
returns-in-Err-clause-inits g c = record {
  scope = Err c.in-Err.fault;
  begins = inr c.in-Err.ensures.only;
  made = (refl, (refl, refl));
}

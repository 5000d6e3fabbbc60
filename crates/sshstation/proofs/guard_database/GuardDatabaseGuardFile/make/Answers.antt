use Rattle.std.proofs.Common.{inl, inr, refl}
use Rattle.sshstation.proofs.guard_database.GuardDatabaseGuardFile.make.Goals as goal

pub returns-in-Err-make_over : goal.returns-in-Err-make_over
returns-in-Err-make_over g c = (tt, inr (refl, c.in-Err-make_over.ensures.left))

pub returns-in-Err-connect : goal.returns-in-Err-connect
returns-in-Err-connect g c = (tt, inl (inr c.in-Err-connect.ensures.none))

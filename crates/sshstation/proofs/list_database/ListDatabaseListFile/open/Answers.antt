use Rattle.std.proofs.Common.{inl, inr, refl}
use Rattle.sshstation.proofs.list_database.ListDatabaseListFile.open.Goals as goal

pub returns-in-Err-open_over : goal.returns-in-Err-open_over
returns-in-Err-open_over g c = (tt, inr (refl, c.in-Err-open_over.ensures.left))

pub returns-in-Err-connect : goal.returns-in-Err-connect
returns-in-Err-connect g c = (tt, inl (inr c.in-Err-connect.ensures.none))

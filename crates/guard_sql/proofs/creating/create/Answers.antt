use Rattle.guard_sql.proofs.creating.create.Goals as goal

pub returns-in-Ok-clause-ends : goal.returns-in-Ok-clause-ends
returns-in-Ok-clause-ends g c clean = rw c.in-Ok.ensures at c.make_whole.ensures.ends clean

pub returns-in-Ok-clause-survives : goal.returns-in-Ok-clause-survives
returns-in-Ok-clause-survives g c = rw c.in-Ok.ensures at c.make_whole.ensures.survives

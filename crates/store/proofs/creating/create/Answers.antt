use Rattle.store.proofs.creating.create.Goals as goal

pub returns-clause-ends : goal.returns-clause-ends
returns-clause-ends g c clean = rw (c.in_ok-office.ensures, c.in_ok-ca.ensures) at c.make_whole.ensures.ends clean

pub returns-clause-survives : goal.returns-clause-survives
returns-clause-survives g c = rw (c.in_ok-office.ensures, c.in_ok-ca.ensures) at c.make_whole.ensures.survives

use Rattle.store.proofs.writes.changing.make.Goals as goal

pub returns-in-Ca-clause-makes : goal.returns-in-Ca-clause-makes
returns-in-Ca-clause-makes g c clean opened = rw (c.in-Ca.is) (c.add_ca.ensures.makes clean)

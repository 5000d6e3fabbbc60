use Rattle.office_jobs.proofs.Words.{AppliesAll, AsksExchanges, Err, Ok, OpensThere, [], ap, refl, subst}
use Rattle.office_jobs.specs.Jobs.{WantsOffice}
use Rattle.office_jobs.specs.Whole.{DoesIn}
use Rattle.office_jobs.proofs.Counted.{of_exchanges, uncounted}
use Rattle.office_jobs.proofs.whole.apply_in.Goals as goal

pub returns-in-Ok-clause-applies : goal.returns-in-Ok-clause-applies
returns-in-Ok-clause-applies g c = record {
  exchanges = Ok c.in-Ok.exchanges.items;
  are_of = c.in-Ok.ensures.found;
  applied = subst (λ es. DoesIn g.S.Store g.W.World g.W.Incoming.Listener.book c.args.world.now c.do_in.new.world
      (OpensThere g.W.World c.args.db.now) (WantsOffice g.S.Store) (AppliesAll es) (AsksExchanges es) [] (g.O.Sink.taken c.args.out)
      (g.O.Sink.taken c.do_in.result.1) c.do_in.result.0) c.as_slice.ensures.value c.do_in.ensures.does;
}

pub returns-in-Err-clause-applies : goal.returns-in-Err-clause-applies
returns-in-Err-clause-applies g c = record {
  exchanges = Err c.in-Err.fault;
  are_of = (c.in-Err.ensures.only, λ k same. c.in-Err.ensures.bad k (ap Err same));
  applied = (refl, (refl, refl));
}

pub returns-in-Err-clause-failed : goal.returns-in-Err-clause-failed
returns-in-Err-clause-failed g c = uncounted (Unit {0}) _ c.in-Err.fault (of_exchanges c.in-Err.fault c.in-Err.ensures.only)

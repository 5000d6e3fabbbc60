use Rattle.office_jobs.proofs.Words.{Err, Ok, ap, arith, sym, ◌∙◌}
use Rattle.office_jobs.proofs.Said.{takes_all, takes_both, told_of}
use Rattle.office_jobs.specs.Commands.{status_by}
use Rattle.office_jobs.specs.Names.{Takes}
use Rattle.office_jobs.proofs.command.do_job.Goals as goal

pub returns-in-Ok-default-clause-runs : goal.returns-in-Ok-default-clause-runs
returns-in-Ok-default-clause-runs g c =
    let ran = c.run_job.ensures.runs in
    record {
      result = c.run_job.result.0;
      said = ran.0;
      runs = ran.2;
      is_its = ap status_by (sym c.in-Ok-default.is-0);
      told = told_of
          (Takes (g.E.Sink.failed c.args.err.now) (g.E.Sink.failed c.run_job.new.err) (g.E.Sink.taken c.args.err.now)
          (g.E.Sink.taken c.run_job.new.err)) ran.0 c.run_job.result.0 (Ok c.in-Ok-default.status)
          c.in-Ok-default.is-0 (takes_all _ _ _ _ ran.0 ran.1);
      heeds = c.run_job.ensures.heeds;
    }

pub returns-in-Err-default-clause-runs : goal.returns-in-Err-default-clause-runs
returns-in-Err-default-clause-runs g c =
    let ran = c.run_job.ensures.runs in
    record {
      result = c.run_job.result.0;
      said = ran.0;
      runs = ran.2;
      is_its = c.status_of.ensures.status ∙ ap status_by (sym c.in-Err-default.is-0);
      told = told_of
          (Takes (g.E.Sink.failed c.args.err.now) (g.E.Sink.failed c.status_of.new.err)
          (g.E.Sink.taken c.args.err.now) (g.E.Sink.taken c.status_of.new.err)) ran.0 c.run_job.result.0
          (Err c.in-Err-default.fault) c.in-Err-default.is-0
          (takes_both _ _ _ _ _ _ _ ran.0 _ c.requires.tells (omega arith) c.status_of.ensures.least ran.1
          c.status_of.ensures.told);
      heeds = c.run_job.ensures.heeds;
    }

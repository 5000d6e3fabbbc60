use Rattle.office_jobs.proofs.Words.{[], arith}
use Rattle.office_jobs.proofs.Commanded.{not_served}
use Rattle.office_jobs.proofs.Counted.{at_most_one, heeds_whole}
use Rattle.office_jobs.proofs.Said.{takes_none}
use Rattle.office_jobs.proofs.command.run_job.Goals as goal

pub returns-in_default-clause-runs : goal.returns-in_default-clause-runs
returns-in_default-clause-runs g c = (
  [],
  takes_none _ _,
  not_served g.S.Store g.W.World g.W.File.Read.remaining g.W.Incoming.Listener.book c.args.world.now
      c.done_by-done.new.world c.args.job.now (g.O.Sink.taken c.args.out) (g.O.Sink.taken c.ended.result.1)
      c.ended.result.0 c.in_default.not-Serve (record {
        between = g.O.Sink.taken c.done_by-done.result.1;
        done = c.done_by-done.result.0;
        did = c.done_by-done.ensures.does;
        kept = c.ended.ensures.kept;
        flushed = c.ended.ensures.flushed;
      }),
)

pub ended-requires : goal.ended-requires
ended-requires g c =
    omega (
      arith,
      c.done_by-done.ensures.failed,
      c.requires.prints,
      at_most_one (g.O.Sink.failed c.args.out) c.done_by-done.result.0,
    )

pub returns-in_default-clause-heeds : goal.returns-in_default-clause-heeds
returns-in_default-clause-heeds g c =
    heeds_whole _ (g.O.Sink.failed c.done_by-done.result.1) _ _ c.done_by-done.result.0 c.ended.result.0
    c.done_by-done.ensures.failed c.ended.ensures.flushed c.ended.ensures.heeds c.ended.ensures.least

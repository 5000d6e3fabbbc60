use Rattle.office_jobs.proofs.Words.{None, Some, [], of_store, refl, state, ℕ}
use Rattle.office_jobs.proofs.Carried.{of_an_office, of_refused_rows}
use Rattle.office_jobs.proofs.Meeting.{served_of, unheard}
use Rattle.office_jobs.proofs.Said.{OnErr-weaker, said_in, takes_none, takes_same}
use Rattle.office_jobs.specs.Names.{Takes}
use Rattle.office_jobs.specs.Whole.{ServesOpen}
use Rattle.office_jobs.proofs.Counted.{heeds_as, of_a_store}
use Rattle.office_jobs.proofs.served.serve_at_port.Goals as goal

pub returns-in-Err-clause-heeds : goal.returns-in-Err-clause-heeds
returns-in-Err-clause-heeds g c =
    heeds_as ℕ _ _ (g.O.Output.is_flushed c.args.out.now) (of_store c.in-Err.fault) c.from.result c.from.ensures (of_a_store c.in-Err.fault)

pub returns-in-Ok-clause-serves : goal.returns-in-Ok-clause-serves
returns-in-Ok-clause-serves g c =
    let run = c.serve_listening in
    let it = said_in run.result.0
    (Takes (g.E.Sink.failed c.args.err.now) (g.E.Sink.failed run.new.err) (g.E.Sink.taken c.args.err.now)
    (g.E.Sink.taken run.new.err))
    (λ said. ServesOpen g.S.Store g.W.World g.W.Incoming.Listener.book c.args.port c.args.connections
    (g.W.File.Read.remaining c.args.nonces) (g.O.Sink.taken c.args.out.now) (g.O.Sink.taken run.new.out) said
    c.args.world.now run.new.world c.in-Ok.store.conn run.result.1 run.result.0) run.ensures.ok run.ensures.err
    (OnErr-weaker run.result.0
    (λ same. takes_same g.E.Sink.failed g.E.Sink.taken c.args.err.now run.new.err same) run.ensures.quiet) in (
      it.0,
      it.1,
      record {
        heard = Some it.2.heard;
        listened = it.2.listened;
        serves = served_of c.args.connections (g.W.File.Read.remaining c.args.nonces)
            g.W.Incoming.Listener.book it.2.heard it.0 (state g.S.Store c.args.conn)
            (state g.S.Store c.in-Ok.store.conn) (state g.S.Store run.result.1) (g.O.Sink.taken c.args.out.now)
            (g.O.Sink.taken run.new.out) run.result.0 (λ clean. (c.in-Ok.ensures.opened (run.ensures.honest clean)).before)
            (λ clean. (c.in-Ok.ensures.opened (run.ensures.honest clean)).tells) it.2.serves;
      },
    )

pub returns-in-Ok-clause-honest : goal.returns-in-Ok-clause-honest
returns-in-Ok-clause-honest g c = λ clean. c.in-Ok.ensures.honest (c.serve_listening.ensures.honest clean)

pub returns-in-Err-clause-serves : goal.returns-in-Err-clause-serves
returns-in-Err-clause-serves g c = (
  [],
  takes_none _ _,
  record {
    heard = None;
    listened = refl;
    serves = unheard c.args.connections (g.W.File.Read.remaining c.args.nonces) (state g.S.Store c.args.conn)
        (state g.S.Store c.in-Err.conn) (g.O.Sink.taken c.args.out.now) (g.O.Sink.taken c.args.out.now)
        c.in-Err.fault c.from.result c.from.ensures c.in-Err.ensures.unopened refl;
  },
)

pub returns-in-Ok-clause-rows : goal.returns-in-Ok-clause-rows
returns-in-Ok-clause-rows g c clean rows has =
    of_an_office rows _ _ ((c.in-Ok.ensures.opened (c.serve_listening.ensures.honest clean)).office rows has)

pub returns-in-Err-clause-rows : goal.returns-in-Err-clause-rows
returns-in-Err-clause-rows g c clean rows has =
    of_refused_rows ℕ rows _ c.in-Err.fault c.from.result c.from.ensures ((c.in-Err.ensures.unopened clean).refused rows has)

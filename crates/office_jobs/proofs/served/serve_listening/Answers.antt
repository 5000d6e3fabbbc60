use Rattle.office_jobs.proofs.Words.{MeetsOver, Ok, ap, state}
use Rattle.office_jobs.proofs.Meeting.{said_of, served_at}
use Rattle.office_jobs.specs.Names.{Takes}
use Rattle.office_jobs.proofs.served.serve_listening.Goals as goal

pub returns-in-Ok-print_port-clause-ok : goal.returns-in-Ok-print_port-clause-ok
returns-in-Ok-print_port-clause-ok g c =
    let run = c.serve_over-status in
    let it = said_of run.result.0 run.ensures.status
    (Takes (g.E.Sink.failed c.args.err.now) (g.E.Sink.failed run.new.err) (g.E.Sink.taken c.args.err.now)
    (g.E.Sink.taken run.new.err))
    (λ said. MeetsOver c.args.connections _ _ _ _ said (state g.S.Store c.args.store.conn)
    (state g.S.Store run.result.1)) run.ensures.met run.ensures.lacking in (
      it.0,
      it.1,
      record {
        heard = Ok (c.in-Ok.incoming, c.in-Ok.at);
        listened = c.in-Ok.ensures;
        serves = served_at c.args.connections c.in-Ok.at run.result.0 _ _
            (g.W.File.Read.remaining c.args.nonces) _ _ it.0 (state g.S.Store c.args.store.conn)
            (state g.S.Store run.result.1) (g.O.Sink.taken c.args.out.now)
            (g.O.Sink.taken c.print_port.new.out) c.in-Ok-print_port.ensures.ok c.new-source.ensures.remaining it.2
            (λ failed. ap (state g.S.Store) (run.ensures.unmet failed)) it.3 run.ensures.served
            run.ensures.status;
      },
    )

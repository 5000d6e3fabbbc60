use Rattle.server.proofs.Visits.{answered_visit, failed_visit, unaccepted_visit}
use Rattle.server.proofs.connection.serve_connection.Goals as goal

pub returns-in-Ok-served-clause-visit : goal.returns-in-Ok-served-clause-visit
returns-in-Ok-served-clause-visit g c =
    let by = c.serve_one-served in
    answered_visit _ _ g.S.Registry g.L.Writer.Sink.taken _ _ _ _ _ by.new.writer c.args.store.now by.new.registry _ _ _ _
    c.in-Ok.ensures.lawful c.in-Ok.ensures.ok _ _ by.result c.in-Ok-served.is by.ensures.ok c.end.ensures

pub returns-in-Err-served-clause-visit : goal.returns-in-Err-served-clause-visit
returns-in-Err-served-clause-visit g c =
    let by = c.serve_one-served in
    failed_visit _ _ g.S.Registry g.L.Writer.Sink.taken _ _ _ _ _ by.new.writer c.args.store.now by.new.registry _ _ _ _
    c.in-Ok.ensures.lawful c.in-Ok.ensures.ok _ by.result c.in-Err-served.is by.ensures.write
    by.ensures.unwritten by.ensures.unchanged by.ensures.drawn by.ensures.before c.end-in-Err-served.ensures

pub returns-in-Err-clause-visit : goal.returns-in-Err-clause-visit
returns-in-Err-clause-visit g c = unaccepted_visit _ _ _ _ g.S.Registry _
    (g.met.S.Registry.unasked c.args.store.now) c.in-Err.ensures.only c.in-Err.ensures.err

use Rattle.sqlite.specs.Held.{state}
use Rattle.headline.proofs.Stored.{prints, prints_ok, prints_part}
use Rattle.headline.proofs.replay.Goals as goal

pub returns-clause-ok : goal.returns-clause-ok
returns-clause-ok g c honest =
    let run = c.apply_exchanges-printed in
    prints_ok run.result (state g.S.Store c.args.store.now.conn) (state g.S.Store run.new.registry.conn) c.args.exchanges.now
    (g.W.Sink.taken c.args.out.now) (g.W.Sink.taken run.new.out) _ c.the_list_is_exact.ensures c.one_ask.ensures
    c.what_is_open_is_stored.ensures (run.ensures.ok honest)

pub returns-clause-fault : goal.returns-clause-fault
returns-clause-fault g c honest failed =
    let run = c.apply_exchanges-printed in
    prints (state g.S.Store c.args.store.now.conn) (state g.S.Store run.new.registry.conn) c.args.exchanges.now
    (g.W.Sink.taken c.args.out.now) (g.W.Sink.taken run.new.out) _ c.the_list_is_exact.ensures c.one_ask.ensures
    c.what_is_open_is_stored.ensures (run.ensures.fault honest failed)

pub returns-clause-write : goal.returns-clause-write
returns-clause-write g c honest failed =
    let run = c.apply_exchanges-printed in
    prints_part (state g.S.Store c.args.store.now.conn) (state g.S.Store run.new.registry.conn) c.args.exchanges.now
    (g.W.Sink.taken c.args.out.now) (g.W.Sink.taken run.new.out) c.the_list_is_exact.ensures c.one_ask.ensures
    c.what_is_open_is_stored.ensures (run.ensures.write honest failed)

pub returns-clause-reads : goal.returns-clause-reads
returns-clause-reads g c none honest is = (c.apply_exchanges-printed.ensures.reads honest is none).0

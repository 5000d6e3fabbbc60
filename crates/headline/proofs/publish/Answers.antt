use Rattle.std.proofs.Common.{length}
use Rattle.sqlite.specs.Held.{state}
use Rattle.store.specs.Meaning.{Tells}
use Rattle.web.proofs.Lists.{few_parts}
use Rattle.headline.proofs.Listed.{listed, part_listed, unwritten_only}
use Rattle.headline.proofs.publish.Goals as goal

pub returns-clause-list : goal.returns-clause-list
returns-clause-list g c honest =
    listed c.the_list_is_exact.ensures (state g.S.Store c.args.store.now.conn) (λ o l m. m.history.office)
    c.in_ok-revoked.revoked (λ o l m. c.in_ok-revoked.ensures.row honest o l m) (g.W.Sink.taken c.args.sink.now)
    (g.W.Sink.taken c.write_found.new.sink) c.write_found.result c.write_found.ensures.fits c.write_found.ensures.ok

pub returns-clause-part : goal.returns-clause-part
returns-clause-part g c honest failed =
    let it = c.write_found.ensures.part failed in
    part_listed c.the_list_is_exact.ensures (state g.S.Store c.args.store.now.conn) (λ o l m. m.history.office)
    c.in_ok-revoked.revoked (λ o l m. c.in_ok-revoked.ensures.row honest o l m) (g.W.Sink.taken c.args.sink.now)
    (g.W.Sink.taken c.write_found.new.sink) it.0 it.1

pub returns-clause-only : goal.returns-clause-only
returns-clause-only g c honest =
    unwritten_only c.write_found.result (length c.in_ok-revoked.revoked.parts.items)
    (Tells (state g.S.Store c.args.store.now.conn)) c.write_found.ensures.only
    (λ o l m. few_parts o l c.in_ok-revoked.revoked (c.in_ok-revoked.ensures.row honest o l m))

pub returns-in_err-revoked-clause-before : goal.returns-in_err-revoked-clause-before
returns-in_err-revoked-clause-before g c honest is = (c.revoked-found.ensures.preserves.before honest is).0

pub returns-clause-before : goal.returns-clause-before
returns-clause-before g c honest is = (c.revoked-found.ensures.preserves.before honest is).0

use Rattle.sqlite.specs.Held.{state}
use Rattle.list_sql.specs.Changes.{with_list}
use Rattle.list_sql.specs.Contents.{list_tables, no_contents}
use Rattle.list_sql.specs.Refusals.{RefusesList}
use Rattle.rows.proofs.Blanks.{blank_ends, blank_fails, blank_left}
use Rattle.list_sql.proofs.creating.make_whole.Goals as goal

pub returns-in-Ok-clause-ends : goal.returns-in-Ok-clause-ends
returns-in-Ok-clause-ends g c = blank_ends list_tables (with_list c.args.list.now no_contents)
    (RefusesList c.args.list.now no_contents) (state g.S.Store c.args.conn.now) (state g.S.Store c.begin.new.conn)
    (state g.S.Store c.make-made.new.conn) (state g.S.Store c.conclude.new.conn) c.make-made.result c.conclude.result
    c.in-Ok.ensures.begins c.begin.ensures.survives c.make-made.ensures c.conclude.ensures.concludes
    c.conclude.ensures.cause c.conclude.ensures.survives

pub returns-in-Ok-clause-cause : goal.returns-in-Ok-clause-cause
returns-in-Ok-clause-cause g c = blank_fails list_tables (with_list c.args.list.now no_contents)
    (RefusesList c.args.list.now no_contents) (state g.S.Store c.args.conn.now) (state g.S.Store c.begin.new.conn)
    (state g.S.Store c.make-made.new.conn) (state g.S.Store c.conclude.new.conn) c.make-made.result c.conclude.result
    c.in-Ok.ensures.begins c.begin.ensures.survives c.make-made.ensures c.conclude.ensures.concludes
    c.conclude.ensures.cause c.conclude.ensures.survives

pub returns-in-Ok-clause-survives : goal.returns-in-Ok-clause-survives
returns-in-Ok-clause-survives g c = blank_left list_tables (with_list c.args.list.now no_contents)
    (RefusesList c.args.list.now no_contents) (state g.S.Store c.args.conn.now) (state g.S.Store c.begin.new.conn)
    (state g.S.Store c.make-made.new.conn) (state g.S.Store c.conclude.new.conn) c.make-made.result c.conclude.result
    c.in-Ok.ensures.begins c.begin.ensures.survives c.make-made.ensures c.conclude.ensures.concludes
    c.conclude.ensures.cause c.conclude.ensures.survives

use Rattle.sqlite.specs.Held.{state}
use Rattle.list_sql.specs.Changes.{with_list}
use Rattle.list_sql.specs.Contents.{list_tables, no_contents}
use Rattle.list_sql.specs.Refusals.{RefusesList}
use Rattle.rows.proofs.Blanks.{made, unmade}
use Rattle.list_sql.proofs.creating.make.Goals as goal

pub returns-in-Ok : goal.returns-in-Ok
returns-in-Ok g c = made list_tables (state g.S.Store c.args.conn.now) (state g.S.Store c.create_list.new.conn)
    (state g.S.Store c.insert_list.new.conn) c.insert_list.result c.in-Ok.ensures.completes c.in-Ok.ensures.stays
    c.create_list.ensures.survives c.insert_list.ensures

pub returns-in-Err : goal.returns-in-Err
returns-in-Err g c = unmade list_tables (with_list c.args.list.now no_contents) (RefusesList c.args.list.now no_contents)
    (state g.S.Store c.args.conn.now) (state g.S.Store c.create_list.new.conn) c.in-Err.fault c.in-Err.ensures.completes
    c.in-Err.ensures.fault c.in-Err.ensures.stays c.create_list.ensures.survives

use Rattle.std.proofs.Common.{◌∙◌}
use Rattle.sqlite.specs.Held.{state}
use Rattle.list_guard.specs.State.{opened}
use Rattle.list_sql.specs.Contents.{no_contents}
use Rattle.list_sql.specs.Refusals.{RefusesList}
use Rattle.list_sql.specs.Rows.{empty_row}
use Rattle.list_sql.proofs.Changed.{opening_fits}
use Rattle.list_sql.proofs.Lasts.{excused, made_stores}
use Rattle.list_sql.proofs.store.ListStore.init.Goals as goal

pub returns-in-Ok-clause-made : goal.returns-in-Ok-clause-made
returns-in-Ok-clause-made g c clean blank =
    let ends = c.in-Ok.ensures.ends clean in
    made_stores (state g.S.Store c.create.new.conn) opened (g.met.S.Store.settled c.create.new.conn.store) ends.1 tt
    (c.in-Ok.ensures.survives.limit ∙ c.requires.unlimited) (ends.2 tt blank).1

pub returns-in-Err-clause-none : goal.returns-in-Err-clause-none
returns-in-Err-clause-none g c clean blank =
    let ends = c.in-Err.ensures.ends clean in
    rw c.opening_fault.ensures (
      excused (state g.S.Store c.args.conn) (state g.S.Store c.create.new.conn) (RefusesList empty_row no_contents)
          c.in-Err.fault c.requires.unlimited (λ still. (ends still).0) opening_fits
          (c.in-Err.ensures.cause clean blank),
      λ still. (ends still).1 tt blank,
    )

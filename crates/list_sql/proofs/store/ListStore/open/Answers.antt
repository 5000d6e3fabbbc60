use Rattle.sqlite.specs.Held.{state}
use Rattle.list_sql.proofs.Lasts.{missed, opened_stores}
use Rattle.list_sql.proofs.store.ListStore.open.Goals as goal

pub returns-in-Ok-clause-opened : goal.returns-in-Ok-clause-opened
returns-in-Ok-clause-opened g c clean s filled has =
    let it = c.in-Ok.ensures.finds clean s filled has.now in (
      it.0,
      opened_stores (state g.S.Store c.args.conn) (state g.S.Store c.find_last.new.conn) s
          (g.met.S.Store.settled c.find_last.new.conn.store) it.1 c.find_last.ensures.survives c.requires.unlimited filled
          has,
    )

pub returns-in-Err-clause-missed : goal.returns-in-Err-clause-missed
returns-in-Err-clause-missed g c clean = missed (state g.S.Store c.args.conn) (state g.S.Store c.find_last.new.conn)
    c.in-Err.fault c.requires.unlimited (c.in-Err.ensures.finds clean)

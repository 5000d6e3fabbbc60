use Rattle.sqlite.specs.Held.{state}
use Rattle.guard_sql.proofs.Scopes.{opened_stores}
use Rattle.guard_sql.proofs.store.GuardStore.open.Goals as goal

pub returns-in-Ok-clause-opened : goal.returns-in-Ok-clause-opened
returns-in-Ok-clause-opened g c clean s guard has =
    let it = c.in-Ok.ensures.finds clean s guard has.now in (
      it.0,
      opened_stores (state g.S.Store c.args.conn) (state g.S.Store c.find_scope.new.conn) s
          (g.met.S.Store.settled c.find_scope.new.conn.store) it.1 c.find_scope.ensures.survives c.requires.unlimited guard
          has,
    )

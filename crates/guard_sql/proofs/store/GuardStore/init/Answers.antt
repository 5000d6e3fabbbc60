use Rattle.std.proofs.Common.{◌∙◌}
use Rattle.sqlite.specs.Held.{state}
use Rattle.guard.specs.State.{opened}
use Rattle.guard_sql.specs.Contents.{no_contents}
use Rattle.guard_sql.specs.Refusals.{RefusesGuard}
use Rattle.guard_sql.specs.Rows.{guard_row}
use Rattle.guard_sql.proofs.Changed.{opening_fits}
use Rattle.guard_sql.proofs.Scopes.{excused, made_stores}
use Rattle.guard_sql.proofs.store.GuardStore.init.Goals as goal

pub returns-in-Ok-clause-made : goal.returns-in-Ok-clause-made
returns-in-Ok-clause-made g c clean blank =
    let ends = c.in-Ok.ensures.ends clean in
    made_stores (state g.S.Store c.create.new.conn) (opened c.args.scope.now)
    (g.met.S.Store.settled c.create.new.conn.store) ends.1
    (record { scope = c.requires.lawful; numbers = tt }) (c.in-Ok.ensures.survives.limit ∙ c.requires.unlimited)
    (ends.2 tt blank).1

pub returns-in-Err-clause-none : goal.returns-in-Err-clause-none
returns-in-Err-clause-none g c clean blank =
    let ends = c.in-Err.ensures.ends clean in
    rw c.opening_fault.ensures (
      excused (state g.S.Store c.args.conn) (state g.S.Store c.create.new.conn)
          (RefusesGuard (guard_row c.args.scope.now) no_contents) c.in-Err.fault c.requires.unlimited
          (λ still. (ends still).0) (opening_fits c.args.scope.now c.requires.lawful)
          (c.in-Err.ensures.cause clean blank),
      λ still. (ends still).1 tt blank,
    )

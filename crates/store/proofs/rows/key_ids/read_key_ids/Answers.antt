use Rattle.sqlite.specs.Held.{state}
use Rattle.store.proofs.Sorting.{shows_key_ids}
use Rattle.store.proofs.rows.key_ids.read_key_ids.Goals as goal

pub returns : goal.returns
returns g c =
    let q = c.every_revoked.ensures in
    record {
      shows = λ clean _. shows_key_ids (state g.S.Store c.args.conn.now) (state g.S.Store c.every_revoked.new.conn)
          c.every_revoked.result (q.finds clean) (q.sorted clean) (q.fault clean);
      reads = λ clean _. q.reads clean;
      survives = q.survives;
    }

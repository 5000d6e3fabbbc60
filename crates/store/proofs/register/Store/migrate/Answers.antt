use Rattle.store.proofs.Words.{Had, Tells, drop, former_contents, is_ca_name, is_office_table, list_any, migrated}
use Rattle.store.proofs.Words.{state, subst, sym, true, ◌∙◌, ◌≡◌}
use Rattle.sqlite.specs.Held.{Held}
use Rattle.store_sql.specs.Look.{first_is_office, whole_has_ca}
use Rattle.store_sql.specs.Schema.{whole}
use Rattle.store.specs.Transactions.{Leaves}
use Rattle.store.proofs.ShortRows.{first_ca_fits}
use Rattle.store.proofs.OfficeRows.{excused_by_disk}
use Rattle.store.proofs.Telling.{keeps_telling, left_committed}
use Rattle.store.proofs.register.Store.migrate.Goals as goal

pub returns-in-Ok-clause-carried : goal.returns-in-Ok-clause-carried
returns-in-Ok-clause-carried g c clean o l history before =
    let carries = c.in-Ok.ensures.carries clean o l before in
    record {
      history = history;
      unlimited = c.in-Ok.ensures.survives.limit ∙ c.requires.unlimited;
      rows = λ still. carries.1;
      left = left_committed (state g.S.Store c.migrate.new.conn) o l
          (λ trees may. g.met.S.Store.settled c.migrate.new.conn.store trees carries.0 may) carries.1;
    }

pub returns-in-Err-clause-only : goal.returns-in-Err-clause-only
returns-in-Err-clause-only g c clean is_open o l history before =
    excused_by_disk (state g.S.Store c.args.conn) (state g.S.Store c.migrate.new.conn) (former_contents o l)
    c.in-Err.fault c.requires.unlimited (first_ca_fits o l history)
    ((c.in-Err.ensures.carries clean o l before).1 is_open)

-- an open connection that represented a history had the table of CAs, so nothing was done
pub returns-in-Err-clause-told : goal.returns-in-Err-clause-told
returns-in-Err-clause-told g c clean =
    let old = state g.S.Store c.args.conn in
    let new = state g.S.Store c.migrate.new.conn in
    keeps_telling old new (Leaves Had migrated old) clean c.in-Err.ensures.survives
    (λ still. (c.in-Err.ensures.migrates clean still).0) (λ trees more. more.0)
    (λ o l tells still.
    let is = (tells.rows still).now.schema in
    let first : list_any is_office_table old.now.schema.tables ≡ true =
    rw (is) (first_is_office (drop 1 whole.tables)) in
    let cas : list_any is_ca_name old.now.schema.tables ≡ true = rw (is) whole_has_ca in
    let stays = (c.in-Err.ensures.already first cas).1 in
    subst (λ (conn : Held _). Tells (state g.S.Store conn) o l) (sym stays) tells)

use Rattle.store.proofs.Words.{RefusesOpening, Schema, [], ap, arith, both_ways, false, list_any, office_contents}
use Rattle.store.proofs.Words.{state, sym, true, ◌∙◌, ◌≡◌}
use Rattle.store_sql.specs.Look.{is_office_name, whole_has_tables}
use Rattle.store.proofs.Before.{same_before}
use Rattle.store.specs.Creating.{LeavesOnBlank}
use Rattle.store.proofs.ShortRows.{opening_fits}
use Rattle.store.proofs.OfficeRows.{excused_unless}
use Rattle.store.proofs.Telling.{keeps_telling, left_committed}
use Rattle.store.proofs.register.Store.init.Goals as goal

pub returns-in-Ok-clause-made : goal.returns-in-Ok-clause-made
returns-in-Ok-clause-made g c clean blank =
    let ends = c.in-Ok.ensures.ends clean in
    let rests = (ends.2 tt blank).1 in
    record {
      history = record { office = record { opening = c.requires.lawful; version = omega arith }; nonces = tt };
      unlimited = c.in-Ok.ensures.survives.limit ∙ c.requires.unlimited;
      rows = λ _. rests;
      left = left_committed (state g.S.Store c.create.new.conn) c.args.opening.now []
          (λ trees may. g.met.S.Store.settled c.create.new.conn.store trees ends.1 may) rests;
    }

pub returns-then-has_any_table-clause-only : goal.returns-then-has_any_table-clause-only
returns-then-has_any_table-clause-only g c clean blank =
    let none : list_any is_office_name (state g.S.Store c.args.conn).now.schema.tables ≡ false =
    ap (λ (s : Schema). list_any is_office_name s.tables) blank.now.0 in
    absurd (both_ways _ none (sym c.has_any_table.ensures ∙ c.if-has_any_table.true))

pub returns-in-Err-clause-only : goal.returns-in-Err-clause-only
returns-in-Err-clause-only g c clean blank =
    let old = state g.S.Store c.args.conn in
    let new = state g.S.Store c.create.new.conn in
    rw c.fault_of.ensures (excused_unless old new (RefusesOpening c.args.opening.now) c.in-Err.fault
    c.requires.unlimited (opening_fits c.args.opening.now c.requires.lawful) (c.in-Err.ensures.cause clean blank))

pub returns-then-has_any_table-clause-before : goal.returns-then-has_any_table-clause-before
returns-then-has_any_table-clause-before g c clean = same_before (state g.S.Store c.args.conn)

-- an open connection that represented a history had the tables of an office
pub returns-in-Err-clause-told : goal.returns-in-Err-clause-told
returns-in-Err-clause-told g c clean =
    let old = state g.S.Store c.args.conn in
    let new = state g.S.Store c.create.new.conn in
    keeps_telling old new (LeavesOnBlank (office_contents c.args.opening.now []) old) clean c.in-Err.ensures.survives
    (λ still. (c.in-Err.ensures.ends clean still).0) (λ trees more. more.0)
    (λ o l tells still.
    let there : list_any is_office_name old.now.schema.tables ≡ true =
    rw ((tells.rows still).now.schema) whole_has_tables in
    absurd (both_ways _ (sym c.has_any_table.ensures ∙ c.if-has_any_table.false) there))

use Rattle.sqlite.specs.Held.{state}
use Rattle.store.proofs.OfficeRows.{looked, unseen}
use Rattle.store.proofs.looking.look.Goals as goal

pub returns-then-not-has_office-clause-looks : goal.returns-then-not-has_office-clause-looks
returns-then-not-has_office-clause-looks g c clean rows has =
    absurd (unseen c.has_office.result rows (state g.S.Store c.args.conn.now).now c.has_office.ensures
    c.if-not-has_office.true has)

pub returns-in-Ok-clause-looks : goal.returns-in-Ok-clause-looks
returns-in-Ok-clause-looks g c clean rows has =
    looked rows _ c.in-Ok.rows.items c.opened_by.result (c.in-Ok.ensures.finds clean rows has).1
    (rw c.as_slice.ensures.value at c.opened_by.ensures)

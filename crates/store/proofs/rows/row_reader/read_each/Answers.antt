use Rattle.store.proofs.Each.{first_all, first_fault, first_more, first_none}
use Rattle.store.proofs.rows.row_reader.read_each.Goals as goal

pub loop-row-init : goal.loop-row-init
loop-row-init g c = first_none g.T.OfRow.value c.args.rows.now c.in-Ok.values.items c.in-Ok.ensures.items

pub loop-row-preserved : goal.loop-row-preserved
loop-row-preserved g c =
    first_more g.T.OfRow.value c.args.rows.now c.loop-row.row-index c.loop-row.values.items c.push.new.self.items
    c.row-item.result c.in-Ok-of_row.value c.loop-row-test.true c.row-item.is c.in-Ok-of_row.ensures
    (rw c.if-is_err.ensures.negation at c.push.ensures.items) c.loop-row.invariant

pub returns : goal.returns
returns g c =
    first_all g.T.OfRow.value c.args.rows.now c.loop-row.row-index c.loop-row.values.items c.loop-row-test.false
    c.loop-row.invariant

pub returns-in-Err-of_row : goal.returns-in-Err-of_row
returns-in-Err-of_row g c =
    first_fault g.T.OfRow.value c.args.rows.now c.loop-row.row-index c.loop-row.values.items c.row-item.result
    c.in-Err-of_row.fault c.loop-row-test.true c.row-item.is c.in-Err-of_row.ensures c.loop-row.invariant

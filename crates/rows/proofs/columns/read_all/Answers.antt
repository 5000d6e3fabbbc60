use Rattle.std.proofs.lemmas.List.{take_all}
use Rattle.rows.proofs.Words.{ap, arith, length, map, sym, ◌<◌, ◌∙◌}
use Rattle.store_sql.proofs.FoundLemmas.{misread_one, one_more_read}
use Rattle.rows.proofs.columns.read_all.Goals as goal

pub returns-in-Err-read-clause-err : goal.returns-in-Err-read-clause-err
returns-in-Err-read-clause-err g c =
    misread_one g.T.Columns.cells c.args.rows.now c.loop-row.row-index c.row-item.result c.in-Err-read.fault
    (omega arith) c.row-item.is c.in-Err-read.ensures.err

pub loop-row-preserved : goal.loop-row-preserved
loop-row-preserved g c =
    let inside : c.loop-row.row-index < length c.args.rows.now = omega arith in
    let items = rw c.in-Ok-push.is at c.push.ensures.items in
    ap (map g.T.Columns.cells) items ∙ one_more_read g.T.Columns.cells c.args.rows.now c.loop-row.row-index
    c.loop-row.all.items c.in-Ok-read.columns c.row-item.result inside c.loop-row.invariant
    (sym c.row-item.is ∙ c.in-Ok-read.ensures.ok)

pub returns-clause-ok : goal.returns-clause-ok
returns-clause-ok g c = sym (c.loop-row.invariant ∙ take_all _ _ c.loop-row-test.false)

use Rattle.std.proofs.Common.{◌≡◌, ◌∙◌, Ok, Some, ap, arith, length, sym, true}
use Rattle.list_sql.specs.Opening.{joined, listed}
use Rattle.list_sql.specs.Rows.{list_in}
use Rattle.list_sql.proofs.Lookups.{joined_more, joined_none}
use Rattle.list_sql.proofs.finding.list_of.Goals as goal

pub returns-in-None : goal.returns-in-None
returns-in-None c = sym (ap (listed true) (joined_none c.args.rows.now c.loop-at.at (length c.args.rows.now)
    (sym c.in-None.ensures) c.loop-at-test.true))

pub loop-at-preserved : goal.loop-at-preserved
loop-at-preserved c =
    let items = rw (c.in-Ok.is, c.as_slice.ensures) at c.extend_from_slice.ensures.items in
    joined_more c.args.rows.now c.loop-at.at c.in-Some.row.now c.loop-at.bytes.items (sym c.in-Some.ensures)
    c.loop-at.invariant ∙ ap Some (sym items)

pub returns : goal.returns
returns c =
    let rows = c.args.rows.now in
    let end : length rows ≡ c.loop-at.at = omega (arith, c.loop-at-test.false, c.loop-at.auto.at-end) in
    let all : joined rows (length rows) ≡ Some c.loop-at.bytes.items = ap (joined rows) end ∙ c.loop-at.invariant in
    ap Ok (c.list_in.ensures ∙ ap list_in c.from_vec.ensures) ∙ sym (ap (listed true) all)

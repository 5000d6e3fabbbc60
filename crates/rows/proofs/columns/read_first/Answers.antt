use Rattle.rows.proofs.Words.{arith, err_from_is_err_and}
use Rattle.store_sql.proofs.FoundLemmas.{misread_one}
use Rattle.rows.proofs.columns.read_first.Goals as goal

pub returns-in_err-read-in-len1-up-clause-err : goal.returns-in_err-read-in-len1-up-clause-err
returns-in_err-read-in-len1-up-clause-err g c =
    let p = err_from_is_err_and c.from_residual.result c.from_residual.ensures.1 in
    rw (p.1, p.2) (misread_one g.T.Columns.cells c.args.rows.now 0 c.first-item.result c.in_err-read-in-len1-up.field-0.0 (omega arith)
    c.first-item.is c.in_err-read-in-len1-up.ensures.err)

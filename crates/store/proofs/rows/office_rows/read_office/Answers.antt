use Rattle.store_sql.proofs.FirstTable.{means_offices}
use Rattle.store.proofs.OneOffice.{shows_office}
use Rattle.store.proofs.Sorting.{rows_asked, rows_failed}
use Rattle.store.proofs.rows.office_rows.read_office.Goals as goal

pub returns-clause-asks : goal.returns-clause-asks
returns-clause-asks g c =
    let q = c.in_ok-rows.ensures in
    rows_asked q.survives q.reads (λ clean. shows_office _ _ _ c.only_office.result
    (λ con means. q.finds clean con.offices (means_offices _ con means))
    (rw c.as_slice.ensures.value at c.only_office.ensures.exact))

pub returns-in_err-rows-clause-asks : goal.returns-in_err-rows-clause-asks
returns-in_err-rows-clause-asks g c =
    let e = c.in_err-rows.ensures in
    rows_failed e.survives e.reads (λ clean con means. e.fault clean con.offices (means_offices _ con means))
    c.from_residual.ensures.1

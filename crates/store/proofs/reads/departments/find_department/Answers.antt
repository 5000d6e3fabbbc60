use Rattle.store.proofs.Words.{department_named, department_of_row, department_row, departments_named}
use Rattle.store.proofs.NamedRow.{department_again, named}
use Rattle.store.proofs.OneRow.{shows_one}
use Rattle.store.proofs.Sorting.{rows_asked, rows_failed}
use Rattle.store.proofs.reads.departments.find_department.Goals as goal

pub returns-clause-asks : goal.returns-clause-asks
returns-clause-asks g c =
    let name = c.args.name.now in
    let q = c.in_ok-found.ensures in
    rows_asked q.survives q.reads (λ clean.
    shows_one department_of_row department_row (departments_named name) (λ s. department_named s name) (named name)
    (department_again name) _ _ c.in_ok-found.found c.read_found.result (q.finds clean) c.read_found.ensures.exact)

pub returns-in_err-found-clause-asks : goal.returns-in_err-found-clause-asks
returns-in_err-found-clause-asks g c =
    let e = c.in_err-found.ensures in
    rows_failed e.survives e.reads e.fault c.from_residual.ensures.1

use Rattle.store.proofs.Words.{Contents, DepartmentRow, Less, department_of_row, department_row, nat_cmp}
use Rattle.store.proofs.Words.{nat_list_cmp_total, slice_cmp, ◌≡◌}
use Rattle.sqlite_trees.proofs.ListLemmas.{ascending-map}
use Rattle.office.specs.Publication.{departments_of}
use Rattle.store.proofs.DepartmentRows.{departments_again}
use Rattle.store.proofs.Sorting.{shows_each, rows_asked, rows_failed}
use Rattle.store.proofs.rows.departments.read_departments.Goals as goal

pub returns : goal.returns
returns g c =
    let q = c.in_ok-rows.ensures in
    rows_asked q.survives q.reads (λ clean.
    shows_each department_of_row (λ (k : Contents). k.departments) (λ (r : DepartmentRow). r.name) (slice_cmp nat_cmp)
    nat_list_cmp_total departments_of
    (λ s kept lawful. ascending-map (λ (a b : DepartmentRow). slice_cmp nat_cmp a.name b.name ≡ Less)
    (λ e. department_row e.1) s.departments lawful.names)
    (λ s kept lawful. departments_again s.departments lawful.departments)
    _ _ _ c.read_each.result (q.finds clean) (q.sorted clean)
    (rw c.as_slice.ensures.value at c.read_each.ensures))

pub returns-in_err-rows : goal.returns-in_err-rows
returns-in_err-rows g c =
    let e = c.in_err-rows.ensures in
    rows_failed e.survives e.reads e.fault c.from_residual.ensures.1

use Rattle.store_sql.proofs.Words.{Text, refl, ◌∙◌}
use Rattle.store_sql.specs.Cells.{department_kinds}
use Rattle.store_sql.proofs.KindLemmas.{cell, fits, number}
use Rattle.store_sql.proofs.departments.DepartmentRowColumns.copied_from.Goals as goal

pub returns : goal.returns
returns c granted is =
    let at7 = c.text_at-6.ensures granted in
    let at5 = c.text_at-5.ensures at7.0 in
    let at4 = c.text_at-4.ensures at5.0 in
    let at3 = c.text_at-3.ensures at4.0 in
    let at2 = c.text_at-2.ensures at3.0 in
    let at0 = c.text_at.ensures at2.0 in
    fits department_kinds c.args.row.now is ∙ cell Text at0.1 (cell number c.number_at.ensures (cell Text at2.1 (cell
    Text at3.1 (cell Text at4.1 (cell Text at5.1 (cell number c.number_at-2.ensures (cell Text at7.1 refl)))))))

use Rattle.store_sql.proofs.Words.{Blob, Text, refl, ◌∙◌}
use Rattle.store_sql.specs.Cells.{office_kinds}
use Rattle.store_sql.proofs.KindLemmas.{cell, fits, number}
use Rattle.store_sql.proofs.offices.OfficeRowColumns.copied_from.Goals as goal

pub returns : goal.returns
returns c granted is =
    let at4 = c.text_at-2.ensures granted in
    let at3 = c.text_at.ensures at4.0 in
    let at2 = c.blob_at.ensures at3.0 in
    fits office_kinds c.args.row.now is ∙ cell number c.number_at.ensures (cell number c.number_at-2.ensures (cell
    Blob at2.1 (cell Text at3.1 (cell Text at4.1 (cell number c.number_at-3.ensures (cell number c.number_at-4.ensures
    (cell number c.number_at-5.ensures (cell number c.number_at-6.ensures (cell number c.number_at-7.ensures
    refl)))))))))

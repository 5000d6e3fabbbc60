use Rattle.rows.proofs.Words.{Blob, refl, ◌∙◌}
use Rattle.list_sql.specs.Cells.{list_kinds}
use Rattle.rows.proofs.KindLemmas.{cell, fits, number}
use Rattle.list_sql.proofs.lists.ListRowColumns.copied_from.Goals as goal

pub returns : goal.returns
returns c granted is =
    let at2 = c.blob_at.ensures granted in
    fits list_kinds c.args.row.now is
    ∙ cell number c.number_at.ensures (cell number c.number_at-2.ensures (cell Blob at2.1 refl))

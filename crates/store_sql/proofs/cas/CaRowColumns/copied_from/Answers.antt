use Rattle.store_sql.proofs.Words.{Blob, refl, ◌∙◌}
use Rattle.store_sql.specs.Cells.{ca_kinds}
use Rattle.store_sql.proofs.KindLemmas.{cell, fits, number}
use Rattle.store_sql.proofs.cas.CaRowColumns.copied_from.Goals as goal

pub returns : goal.returns
returns c granted is =
    let at1 = c.blob_at.ensures granted in
    fits ca_kinds c.args.row.now is ∙ cell number c.number_at.ensures (cell Blob at1.1 (cell number
    c.number_at-2.ensures refl))

use Rattle.store_sql.proofs.Words.{Blob, Text, or_null, refl, ◌∙◌}
use Rattle.store_sql.specs.Cells.{cert_kinds}
use Rattle.store_sql.proofs.KindLemmas.{cell, fits, number}
use Rattle.store_sql.proofs.certs.CertRowColumns.copied_from.Goals as goal

pub returns : goal.returns
returns c granted is =
    let at4 = c.optional_blob_at.ensures granted in
    let at3 = c.blob_at.ensures at4.0 in
    let at2 = c.text_at-2.ensures at3.0 in
    let at1 = c.text_at.ensures at2.0 in
    fits cert_kinds c.args.row.now is ∙ cell number c.number_at.ensures (cell Text at1.1 (cell Text at2.1 (cell Blob
    at3.1 (cell (or_null Blob) at4.1 refl))))

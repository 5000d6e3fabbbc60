use Rattle.store_sql.proofs.Words.{Blob, Text, refl, ◌∙◌}
use Rattle.store_sql.specs.Cells.{request_kinds}
use Rattle.store_sql.proofs.KindLemmas.{cell, fits}
use Rattle.store_sql.proofs.requests.RequestRowColumns.copied_from.Goals as goal

pub returns : goal.returns
returns c granted is =
    let at3 = c.text_at-3.ensures granted in
    let at2 = c.blob_at.ensures at3.0 in
    let at1 = c.text_at-2.ensures at2.0 in
    let at0 = c.text_at.ensures at1.0 in
    fits request_kinds c.args.row.now is ∙ cell Text at0.1 (cell Text at1.1 (cell Blob at2.1 (cell Text at3.1 refl)))

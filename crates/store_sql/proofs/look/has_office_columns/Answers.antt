use Rattle.store_sql.proofs.Words.{length, sym, ◌∙◌, ◌≡◌}
use Rattle.store_sql.proofs.KindLemmas.{same_names}
use Rattle.store_sql.proofs.look.has_office_columns.Goals as goal

pub returns-then-len-eq10 : goal.returns-then-len-eq10
returns-then-len-eq10 c =
    let many : length c.args.table.now.columns ≡ 10 = sym c.len.ensures ∙ c.if-len-eq10.true in
    rw many ((rw c.as_slice.ensures at c.are_named.ensures) ∙ same_names c.args.table.now.columns _)

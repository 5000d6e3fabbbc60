use Rattle.rows.proofs.Words.{length, sym, ◌∙◌, ◌≡◌}
use Rattle.store_sql.proofs.KindLemmas.{same_names}
use Rattle.list_sql.proofs.look.has_list_columns.Goals as goal

pub returns-then-len-eq3 : goal.returns-then-len-eq3
returns-then-len-eq3 c =
    let many : length c.args.table.now.columns ≡ 3 = sym c.len.ensures ∙ c.if-len-eq3.true in
    rw many ((rw c.as_slice.ensures at c.are_named.ensures) ∙ same_names c.args.table.now.columns _)

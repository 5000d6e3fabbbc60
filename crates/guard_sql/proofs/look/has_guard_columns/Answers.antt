use Rattle.rows.proofs.Words.{length, sym, ◌∙◌, ◌≡◌}
use Rattle.store_sql.proofs.KindLemmas.{same_names}
use Rattle.guard_sql.proofs.look.has_guard_columns.Goals as goal

pub returns-then-len-eq5 : goal.returns-then-len-eq5
returns-then-len-eq5 c =
    let many : length c.args.table.now.columns ≡ 5 = sym c.len.ensures ∙ c.if-len-eq5.true in
    rw many ((rw c.as_slice.ensures at c.are_named.ensures) ∙ same_names c.args.table.now.columns _)

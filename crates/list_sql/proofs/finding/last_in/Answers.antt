use Rattle.std.proofs.Common.{◌∙◌, ap, length, subst, sym}
use Rattle.list_sql.specs.Opening.{IsUnlessRefused, joined, listed}
use Rattle.list_sql.proofs.Lookups.{no_rows, some_length, some_rows}
use Rattle.list_sql.proofs.finding.last_in.Goals as goal

pub returns-then-is_empty : goal.returns-then-is_empty
returns-then-is_empty c = sym (no_rows c.args.rows.now c.is_empty.result c.is_empty.ensures c.if-is_empty.true)

pub returns-then-not-are_known : goal.returns-then-not-are_known
returns-then-not-are_known c =
    let rows = c.args.rows.now in
    let some = some_rows rows (some_length rows c.is_empty.result c.is_empty.ensures c.if-is_empty.false) in
    let known = sym c.are_known.ensures ∙ c.if-not-are_known.true in
    sym (some ∙ ap (λ b. listed b (joined rows (length rows))) known)

pub returns : goal.returns
returns c =
    let rows = c.args.rows.now in
    let some = some_rows rows (some_length rows c.is_empty.result c.is_empty.ensures c.if-is_empty.false) in
    let known = sym c.are_known.ensures ∙ c.if-not-are_known.false in
    subst (λ due. IsUnlessRefused due c.list_of.result)
    (sym (some ∙ ap (λ b. listed b (joined rows (length rows))) known)) c.list_of.ensures

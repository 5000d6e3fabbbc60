use Rattle.store.proofs.Words.{drop, each, option_map, ◌++◌, ◌≡◌}
use Rattle.store.proofs.rows.row_reader.read_each.Given as goal

-- the values of all rows are those read so far, followed by those of the other rows
abbrev pub invariant-loop-row : goal.invariant-loop-row
invariant-loop-row g l =
    each g.T.OfRow.value l.rows
    ≡ option_map (λ xs. l.values.items ++ xs) (each g.T.OfRow.value (drop l.row-index l.rows))

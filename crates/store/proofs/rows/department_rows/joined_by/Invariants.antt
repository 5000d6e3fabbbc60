use Rattle.store.proofs.Words.{drop, ◌++◌, ◌≡◌}
use Rattle.std.specs.List.{join_with_byte}
use Rattle.store.proofs.DepartmentRows.{following}
use Rattle.store.proofs.rows.department_rows.joined_by.Given as goal

abbrev pub invariant-loop-text : goal.invariant-loop-text
invariant-loop-text l = l.bytes.items ++ following l.byte (drop l.text-index l.rest) ≡ join_with_byte l.byte l.texts

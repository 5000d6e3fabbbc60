use Rattle.std.proofs.Common.{◌≡◌, take}
use Rattle.memory_store.proofs.store.PlainStore.department_rows.Given as goal

abbrev pub invariant-loop-department : goal.invariant-loop-department
invariant-loop-department l = l.rows.items ≡ take l.department-index l.department-items

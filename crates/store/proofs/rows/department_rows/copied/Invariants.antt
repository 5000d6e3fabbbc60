use Rattle.std.proofs.Common.{◌≡◌, map, take}
use Rattle.store.proofs.rows.department_rows.copied.Given as goal

abbrev pub invariant-loop-piece : goal.invariant-loop-piece
invariant-loop-piece l = l.texts ≡ map (λ x. x.now) (take l.piece-index l.pieces)

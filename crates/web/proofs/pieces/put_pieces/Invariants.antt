use Rattle.web.proofs.Words.{flat_map, take, ◌++◌, ◌≡◌}
use Rattle.web.proofs.pieces.put_pieces.Given as goal

-- the output has the pieces so far
abbrev pub invariant-loop-piece : goal.invariant-loop-piece
invariant-loop-piece l = l.out.items ≡ l.fn.out.items ++ flat_map (λ p. p.now) (take l.piece-index l.pieces)

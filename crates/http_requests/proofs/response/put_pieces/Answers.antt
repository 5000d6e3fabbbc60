use Rattle.std.proofs.Common.{List, [], ℕ, Bor, arith}
use Rattle.std.proofs.lemmas.List.Folds.{length-flat_map-take}
use Rattle.http_requests.proofs.response.put_pieces.Goals as goal

-- the pieces up to this one are no longer than all of them, for which there is room
pub unreachable-requires : goal.unreachable-requires
unreachable-requires c =
    let none : Bor (List ℕ) = record { ref_ptr = (0, 0); now = [] } in
    let fits = length-flat_map-take (λ (p : Bor (List ℕ)). p.now) c.args.pieces.now c.loop-piece.piece-index none
    c.loop-piece-test.true in
    let full = c.in-Err.ensures.full in
    omega (arith, fits, full)

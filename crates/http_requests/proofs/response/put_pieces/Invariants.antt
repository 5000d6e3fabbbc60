use Rattle.std.proofs.Common.{◌≡◌, ◌≤◌, ◌+◌, ◌++◌, length, take, vec_len, vec_capacity}
use Rattle.std.specs.List.{flat_map}
use Rattle.http_requests.proofs.response.put_pieces.Given as goal

-- the pieces so far
abbrev pub invariant-loop-piece : goal.invariant-loop-piece
invariant-loop-piece l =
    record {
      items : l.out.items ≡ l.initial.out.items ++ flat_map (λ p. p.now) (take l.piece-index l.pieces);
      len : vec_len l.out ≡ vec_len l.initial.out + length (flat_map (λ p. p.now) (take l.piece-index l.pieces));
      capacity : vec_capacity l.initial.out ≤ vec_capacity l.out;
    }

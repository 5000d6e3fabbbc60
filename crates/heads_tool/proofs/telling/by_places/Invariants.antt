use Rattle.http_requests.specs.Places.{IsAt}
use Rattle.heads_tool.proofs.telling.by_places.Given as goal

abbrev pub invariant-loop-byte : goal.invariant-loop-byte
invariant-loop-byte l = IsAt l.spot l.came.items

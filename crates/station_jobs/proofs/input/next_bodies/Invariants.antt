use Rattle.std.proofs.Common.{◌≡◌, All, length}
use Rattle.std.specs.List.{flat_map}
use Rattle.std.specs.Io.KnownBytes.{Consumes}
use Rattle.station_jobs.specs.Input.{HasLength, body_text}
use Rattle.station_jobs.proofs.input.next_bodies.Given as goal

-- the first bodies have been read
abbrev pub invariant-loop-at : goal.invariant-loop-at
invariant-loop-at g l = record {
  taken : Consumes (g.I.Read.remaining l.fn.input) (g.I.Read.remaining l.input) (flat_map body_text l.bodies.items);
  count : length l.bodies.items ≡ l._at;
  sizes : All HasLength l.bodies.items;
}

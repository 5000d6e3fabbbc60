use Rattle.std.proofs.Common.{◌≡◌, ◌≤◌, ◌^◌}
use Rattle.guard.specs.Machine.{State}
use Rattle.station_jobs.specs.Bodies.{AreReadable}
use Rattle.station_jobs.specs.Leaving.{Stays}
use Rattle.station_jobs.proofs.Rows.{Listed}
use Rattle.station_jobs.proofs.bodies.print_bodies.Given as goal

-- the rows before this serial have been printed
abbrev pub invariant-loop-row : goal.invariant-loop-row
invariant-loop-row g l = record {
  honest : g.G.Register.is_honest l.register → g.G.Register.is_honest l.fn.register;
  stays : g.G.Register.is_honest l.register → (s : State) → g.G.Register.keeps l.fn.register s
      → Stays g.G.Register l.fn.register l.register s;
  listed : g.G.Register.is_honest l.register → (s : State) → g.G.Register.keeps l.fn.register s
      → Listed s (g.W.Write.contents l.fn.out) (g.W.Write.contents l.out) l.from;
  counted : g.G.Register.is_honest l.register → (s : State) → g.G.Register.keeps l.fn.register s → AreReadable s
      → (l._row ≤ l.from) × (l.from ≤ 2 ^ 63);
  reported : g.G.Register.reported l.register ≡ g.G.Register.reported l.fn.register;
  before : g.G.Register.is_honest l.register → g.G.Register.is_as_before l.fn.register l.register;
}

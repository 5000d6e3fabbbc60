use Rattle.std.proofs.Common.{◌≡◌, Ok, map, string_bytes, take}
use Rattle.guard.specs.Machine.{State}
use Rattle.station_jobs.specs.Judging.{Asks, Judges}
use Rattle.station_jobs.specs.Leaving.{Leaves, OfBodies}
use Rattle.station_jobs.proofs.judging.judge_files.Given as goal

-- the bodies at the first paths have been judged
abbrev pub invariant-loop-path : goal.invariant-loop-path
invariant-loop-path g l = record {
  honest : g.G.Register.is_honest l.register → g.G.Register.is_honest l.fn.register;
  judges : g.G.Register.is_honest l.register → (s : State) → g.G.Register.keeps l.fn.register s
      → Judges 1 s (Leaves g.G.Register
      (OfBodies 1 (Asks g.P.Surroundings l.around g.F.Read.remaining (λ p. p ≡ l.policy) l.ahead))
      l.fn.register l.register s)
      (Asks g.P.Surroundings l.around g.F.Read.remaining (λ p. p ≡ l.policy) l.ahead)
      (map string_bytes (take l.path-index l.paths)) (g.W.Write.contents l.fn.out) (g.W.Write.contents l.out) (Ok tt);
  reported : g.G.Register.reported l.register ≡ g.G.Register.reported l.fn.register;
}

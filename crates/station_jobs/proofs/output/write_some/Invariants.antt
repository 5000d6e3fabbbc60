use Rattle.std.specs.Io.KnownBytes.{Keeps}
use Rattle.station_jobs.proofs.output.write_some.Given as goal

-- an interrupted try took nothing
abbrev pub invariant-tries : goal.invariant-tries
invariant-tries g l = Keeps (g.W.Write.contents l.fn.out) (g.W.Write.contents l.out)

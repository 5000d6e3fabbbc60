use Rattle.std.proofs.Common.{◌≡◌}
use Rattle.std.specs.Io.KnownBytes.{Keeps}
use Rattle.office_jobs.proofs.console.ConsoleSink.write.Given as goal

abbrev pub invariant-tries : goal.invariant-tries
invariant-tries g l =
    Keeps (g.W.Write.contents l.fn.self.writer) (g.W.Write.contents l.self.writer)
    × (l.self.failures ≡ l.fn.self.failures)

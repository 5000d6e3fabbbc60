use Rattle.server.proofs.Words.{Keeps, ◌≡◌}
use Rattle.server.proofs.timed.TimedSink.write.Given as goal

abbrev pub invariant-tries : goal.invariant-tries
invariant-tries g l =
    Keeps (g.S.Write.contents l.fn.self.stream) (g.S.Write.contents l.self.stream)
    × (l.self.failures ≡ l.fn.self.failures)

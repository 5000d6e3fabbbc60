use Rattle.server.proofs.Words.{Keeps, ◌≡◌}
use Rattle.server.proofs.timed.TimedSource.read.Given as goal

abbrev pub invariant-tries : goal.invariant-tries
invariant-tries g l =
    Keeps (g.S.Read.remaining l.fn.self.stream) (g.S.Read.remaining l.self.stream)
    × (l.self.failures ≡ l.fn.self.failures)

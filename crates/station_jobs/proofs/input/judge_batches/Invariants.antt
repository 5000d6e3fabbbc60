use Rattle.std.proofs.Common.{◌≡◌, Ok, true}
use Rattle.guard.specs.Machine.{State}
use Rattle.guard.specs.Policies.{policy_at}
use Rattle.station_jobs.specs.Judging.{AsksGiven}
use Rattle.station_jobs.specs.Leaving.{Leaves, OfBodies}
use Rattle.station_jobs.proofs.Batches.{Underway}
use Rattle.station_jobs.proofs.input.judge_batches.Given as goal

-- the bodies of the first batches have been judged
abbrev pub invariant-loop-turn : goal.invariant-loop-turn
invariant-loop-turn g l = record {
  honest : g.G.Register.is_honest l.register → g.G.Register.is_honest l.fn.register;
  known : policy_at l.known.text.items ≡ Ok l.known.policy;
  underway : g.G.Register.is_honest l.register → (s : State) → g.G.Register.keeps l.fn.register s
      → Underway s (Leaves g.G.Register
      (OfBodies 64 (AsksGiven g.P.Surroundings l.around g.F.Read.remaining true l.policy l.ahead)) l.fn.register l.register s)
      (AsksGiven g.P.Surroundings l.around g.F.Read.remaining true l.policy l.ahead) (g.I.Read.remaining l.fn.input)
      (g.I.Read.remaining l.input) (g.W.Write.contents l.fn.out) (g.W.Write.contents l.out);
  reported : g.G.Register.reported l.register ≡ g.G.Register.reported l.fn.register;
}

use Rattle.std.proofs.Common.{◌≡◌, List, ℕ, Result, map, string_bytes}
use Rattle.std.specs.Prelude.{IfErr}
use Rattle.guard.specs.Machine.{State, Question}
use Rattle.station_jobs.specs.declared.station_fault.StationFault.{StationFault}
use Rattle.station_jobs.specs.Judging.{AsksGiven, IsBadPolicyAt}
use Rattle.station_jobs.specs.Leaving.{OfBodies}
use Rattle.station_jobs.specs.Whole.{IsOfGiven, JudgesGiven, is_input, most_of}
use Rattle.station_jobs.proofs.Filed.{given_so, ran_in}
use Rattle.station_jobs.proofs.whole.judge_over.Goals as goal

pub returns-in-Ok-clause-runs : goal.returns-in-Ok-clause-runs
returns-in-Ok-clause-runs g c =
    let held = g.W.Write.contents c.args.out.now in
    let holds = g.W.Write.contents c.judge_given-done.new.out in
    let input = g.I.Read.remaining c.args.input.now in
    let bodies : List (List ℕ) = map string_bytes c.args.judging.now.bodies.now in
    let Asked : List ℕ → Question → Type 0 =
    AsksGiven g.P.Surroundings c.args.around.now g.F.Read.remaining (is_input bodies) c.args.judging.now.policy.now
    c.args.judging.now.ahead in
    let Bad : ℕ → Type 0 =
    IsBadPolicyAt g.P.Surroundings c.args.around.now g.F.Read.remaining c.args.judging.now.policy.now in
    let is = c.judge_given-done.ensures in
    let Did : State → (State → Result (Unit {0}) StationFault → Type 0) → Result (Unit {0}) StationFault → Type 0 =
    λ s Left r. JudgesGiven (is_input bodies) s Left Asked bodies input held holds r
    × IfErr r (IsOfGiven Bad (is_input bodies)) in
    ran_in g.G.Register g.D.GuardFile c.requires.keeps (OfBodies (most_of (is_input bodies)) Asked) Did
    (λ s Left Left' r leads is. (given_so (is_input bodies) s Left Left' Asked bodies input held holds r leads is.0, is.1))
    (holds ≡ held) c.args.db.now c.open.new.self c.close.new.self c.args.path.now c.in-Ok.guard
    c.judge_given-done.new.register c.judge_given-done.result c.close.result c.closed.result c.in-Ok.ensures
    (is.honest, λ h s kept. (is.judges h s kept, is.only)) is.reported c.close.ensures c.closed.ensures

use Rattle.std.proofs.Common.{Bool, List, ℕ, map, string_bytes, subst, sym, ◌∙◌}
use Rattle.station_jobs.specs.Judging.{AsksGiven}
use Rattle.station_jobs.specs.Leaving.{Leaves, OfBodies}
use Rattle.station_jobs.specs.Whole.{JudgesGiven, most_of}
use Rattle.station_jobs.proofs.whole.judge_given.Goals as goal

pub returns-then-is_input-clause-judges : goal.returns-then-is_input-clause-judges
returns-then-is_input-clause-judges g c h s kept =
    let j = c.args.judging.now in
    let bodies : List (List ℕ) = map string_bytes j.bodies.now in
    let Given : Bool → Type 0 =
    λ b. JudgesGiven b s
    (Leaves g.G.Register (OfBodies (most_of b)
    (AsksGiven g.P.Surroundings c.args.around.now g.F.Read.remaining b j.policy.now j.ahead)) c.args.register.now
    c.judge_batches.new.register s)
    (AsksGiven g.P.Surroundings c.args.around.now g.F.Read.remaining b j.policy.now j.ahead) bodies
    (g.I.Read.remaining c.args.input.now) (g.W.Write.contents c.args.out.now)
    (g.W.Write.contents c.judge_batches.new.out) c.judge_batches.result in
    subst Given (sym c.if-is_input.true ∙ c.is_input.ensures) (c.judge_batches.ensures.judges h s kept)

pub returns-clause-judges : goal.returns-clause-judges
returns-clause-judges g c h s kept =
    let j = c.args.judging.now in
    let bodies : List (List ℕ) = map string_bytes j.bodies.now in
    let Given : Bool → Type 0 =
    λ b. JudgesGiven b s
    (Leaves g.G.Register (OfBodies (most_of b)
    (AsksGiven g.P.Surroundings c.args.around.now g.F.Read.remaining b j.policy.now j.ahead)) c.args.register.now
    c.judge_named.new.register s)
    (AsksGiven g.P.Surroundings c.args.around.now g.F.Read.remaining b j.policy.now j.ahead) bodies
    (g.I.Read.remaining c.args.input.now) (g.W.Write.contents c.args.out.now)
    (g.W.Write.contents c.judge_named.new.out) c.judge_named.result in
    subst Given (sym c.if-is_input.false ∙ c.is_input.ensures) (c.judge_named.ensures.judges h s kept)

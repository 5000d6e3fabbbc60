use Rattle.station_jobs.proofs.Judgements.{judged_now}
use Rattle.station_jobs.proofs.whole.judge_named.Goals as goal

pub returns-clause-judges : goal.returns-clause-judges
returns-clause-judges g c h s kept =
    judged_now g.P.Surroundings c.args.around.now g.F.Read.remaining c.args.known.policy c.args.judging.now.policy.now
    c.args.judging.now.ahead c.requires g.G.Register c.args.register.now c.judge_files-done.new.register s _ _ _ _
    (c.judge_files-done.ensures.judges h s kept)

use Rattle.krl.proofs.Splitting.{cut_runs, contains_cut}
use Rattle.krl.proofs.runs.between.Goals as goal

pub returns-clause-runs : goal.returns-clause-runs
returns-clause-runs c = rw (c.in_ok-cut_runs.ensures) (cut_runs 0 c.args.from c.args.before c.args.runs.now c.requires)

pub returns-clause-cut : goal.returns-clause-cut
returns-clause-cut c n =
    rw (c.in_ok-cut_runs.ensures) (contains_cut 0 c.args.from c.args.before c.args.runs.now n c.requires)

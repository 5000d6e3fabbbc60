use Rattle.krl.proofs.Words.{arith, drop_all, ◌∙◌, ◌≡◌}
use Rattle.krl.proofs.Joining.{joined, joined_runs, contains_joined}
use Rattle.krl.proofs.runs.joined.Goals as goal

-- the content of the vector at the end
made : (c : goal.In_ok-push-3) → c.push-2.new.self.items ≡ joined c.args.with.lo c.args.with.hi c.args.runs.now
made c =
    let none = drop_all c.loop-run.run-index c.args.runs.now (omega arith) in
    c.in_ok-push-3.ensures.items ∙ (rw none at c.loop-run.invariant)

pub returns-clause-runs : goal.returns-clause-runs
returns-clause-runs c =
    rw (made c)
    (joined_runs 0 c.args.with.lo c.args.with.hi c.args.runs.now (omega arith) c.requires.order
    (omega arith) c.requires.runs)

pub returns-clause-union : goal.returns-clause-union
returns-clause-union c n =
    rw (made c) (contains_joined 0 c.args.with.lo c.args.with.hi n c.args.runs.now c.requires.order c.requires.runs)

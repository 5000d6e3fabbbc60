use Rattle.krl.proofs.Words.{ap, arith, drop_all, is_among, ◌+◌, ◌||◌, ◌∙◌, ◌≡◌}
use Rattle.krl.proofs.Gathering.{gathered, AscendFrom, ascend, gathered_runs, contains_gathered, within_one}
use Rattle.krl.proofs.runs.gathered.Goals as goal

-- the content of the vector at the end
made : (c : goal.In_ok-push-2)
    → c.push-2.new.self.items ≡ gathered (record { lo = c.args.first; hi = c.args.first }) c.args.rest.now
made c =
    let none = drop_all c.loop-serial.serial-index c.args.rest.now (omega arith) in
    c.in_ok-push-2.ensures.items ∙ (rw none at c.loop-serial.invariant)

ascending : (c : goal.In_ok-push-2) → AscendFrom (c.args.first + 1) c.args.rest.now
ascending c = ascend c.args.first c.args.rest.now c.requires (λ k lt. omega (arith, c.type_inv.rest k))

pub returns-clause-runs : goal.returns-clause-runs
returns-clause-runs c =
    rw (made c)
    (gathered_runs 0 (record { lo = c.args.first; hi = c.args.first }) c.args.rest.now (omega arith) (omega arith)
    (omega arith) (ascending c))

pub returns-clause-among : goal.returns-clause-among
returns-clause-among c n =
    rw (made c)
    (contains_gathered (record { lo = c.args.first; hi = c.args.first }) c.args.rest.now n
    (omega arith) (ascending c)
    ∙ ap (λ b. b || is_among c.args.rest.now n) (within_one n c.args.first))

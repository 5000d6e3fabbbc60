use Rattle.krl.proofs.Words.{arith, le-ltb, sym, ◌∙◌, ◌≤◌}
use Rattle.krl.proofs.Covering.{none_covers, some_covers}
use Rattle.krl.proofs.runs.covers.Goals as goal

pub returns-then-count-gt0 : goal.returns-then-count-gt0
returns-then-count-gt0 c =
    some_covers c.args.lo c.args.hi c.count_begun-count.result c.args.runs.now (record { lo = 0; hi = 0 })
    c.requires c.count_begun-count.ensures.bound c.count_begun-count.ensures.point c.if-count-gt0.true

pub returns-else-count-gt0 : goal.returns-else-count-gt0
returns-else-count-gt0 c =
    let none : c.count_begun-count.result ≤ 0 = c.if-count-gt0.false in
    le-ltb 0 c.count_begun-count.result none ∙ sym (none_covers c.args.lo c.args.hi c.args.runs.now
    (λ k d lt. c.count_begun-count.ensures.point.1 k d (omega arith) lt))

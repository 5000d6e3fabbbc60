use Rattle.krl.proofs.Words.{refl, Some, ap, arith, sym, ◌∙◌, ◌≤◌}
use Rattle.krl.proofs.Booleans.{clash}
use Rattle.krl.proofs.FrontLaws.{no_bytes}
use Rattle.krl.proofs.RunsRead.{all_read, least, one_more, out_of_order, read_again}
use Rattle.krl.proofs.runs_left.behind_runs.Goals as goal

pub returns-then-not-may_follow-clause-only : goal.returns-then-not-may_follow-clause-only
returns-then-not-may_follow-clause-only c rs after h none split =
    absurd (out_of_order _ _ _ _ _ _ c.loop-run.last c.in-Some.run' c.loop-run.invariant
    (λ le. cc (c.may_follow.ensures.1 le)) (sym c.in-Some.ensures.reads) rs after h none split)

pub loop-run-preserved : goal.loop-run-preserved
loop-run-preserved c =
    let low : least c.loop-run.last ≤ c.in-Some.run'.lo =
    grind (arith, c.may_follow.ensures, c.if-not-may_follow.false) in
    one_more _ _ _ _ _ _ c.loop-run.last c.in-Some.run' c.loop-run.invariant low c.in-Some.ensures.order
    c.in-Some.ensures.bound
    c.in-Some.ensures.listed c.in-Some.ensures.ranges (sym c.in-Some.ensures.reads)

pub returns-then-is_empty-clause-found : goal.returns-then-is_empty-clause-found
returns-then-is_empty-clause-found c =
    all_read _ _ _ _ c.loop-run.last c.loop-run.invariant
    (no_bytes c.loop-run.left.listed.now (sym c.is_empty.ensures ∙ c.if-is_empty.true))

pub returns-then-is_empty-clause-only : goal.returns-then-is_empty-clause-only
returns-then-is_empty-clause-only c rs after h none split =
    ap Some (read_again _ _ _ _ c.loop-run.last c.loop-run.invariant
    (sym c.in_default.ensures.reads) rs after h none split).1

pub returns-else-is_empty-clause-only : goal.returns-else-is_empty-clause-only
returns-else-is_empty-clause-only c rs after h none split =
    let empty =
    (read_again _ _ _ _ c.loop-run.last c.loop-run.invariant
    (sym c.in_default.ensures.reads) rs after h none split).0 in
    absurd (clash c.is_empty.result (c.is_empty.ensures ∙ rw empty refl) c.if-is_empty.false)

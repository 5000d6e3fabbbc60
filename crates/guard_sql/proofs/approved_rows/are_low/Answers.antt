use Rattle.std.proofs.Common.{refl, subst}
use Rattle.std.proofs.lemmas.List.Elements.{All-more, All-nil}
use Rattle.guard.specs.Judged.{IsKeepable}
use Rattle.guard_sql.specs.Several.{IsLow}
use Rattle.guard_sql.proofs.approved_rows.are_low.Goals as goal

pub loop-row-init : goal.loop-row-init
loop-row-init c = All-nil IsLow

pub loop-row-preserved : goal.loop-row-preserved
loop-row-preserved c =
    All-more IsLow c.args.rows.now c.loop-row.row-index c.row-item.result c.loop-row-test.true c.loop-row.invariant
    (subst IsLow c.row-item.is (c.if-not-is_low.ensures.low refl))

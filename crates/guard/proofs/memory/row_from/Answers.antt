use Rattle.std.proofs.Common.{add-one, ap, arith, length, option_copied, subst, sym, take, [], ◌++◌, ◌<◌, ◌∙◌, ◌∷◌}
use Rattle.std.proofs.Math.Seq.{take-suc}
use Rattle.guard.specs.Retiring.{IsFirstFrom}
use Rattle.guard.proofs.memory.row_from.Goals as goal

pub loop-row-preserved : goal.loop-row-preserved
loop-row-preserved c =
    let rows = c.args.approved.now in
    let i = c.loop-row.row-index in
    let inside : i < length rows = omega arith in
    subst (λ seen. IsFirstFrom c.args.serial seen (option_copied c.nearer-found.result))
    (ap (λ row. take i rows ++ row ∷ []) c.row-item.is ∙ sym (rw add-one (take-suc rows i c.row-item.result inside)))
    (c.nearer-found.ensures (take i rows) c.loop-row.invariant)

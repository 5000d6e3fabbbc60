use Rattle.krl.proofs.Words.{ap, contains, get_or, sym, ◌&&◌, ◌∙◌}
use Rattle.std.proofs.lemmas.Result.{IfOk-weaker}
use Rattle.krl.proofs.Splitting.{is_between, last_reached}
use Rattle.krl.proofs.runs.part_at.Goals as goal

pub returns-clause-part : goal.returns-clause-part
returns-clause-part c = IfOk-weaker c.between.result _ _ (λ v cut n.
    cut n ∙ ap (λ b. b && contains c.args.runs.now n)
    (ap (λ o. is_between (get_or c.args.since.now c.args.place 0) o n) c.number_at.ensures
    ∙ sym (last_reached c.args.since.now c.args.place n c.requires.ascending)))
    c.between.ensures.cut

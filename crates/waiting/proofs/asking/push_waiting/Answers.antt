use Rattle.std.proofs.Common.{◌∙◌, ap, cond, ◌++◌, [], ◌∷◌, Bool}
use Rattle.waiting.proofs.asking.push_waiting.Goals as goal

pub returns-clause-row : goal.returns-clause-row
returns-clause-row g c h o l m are =
    c.in_ok-push_if.ensures
    ∙ ap (λ (b : Bool). c.args.rows.now.items ++ cond b (c.args.row.now ∷ []) []) (c.in_ok-waits.ensures.row h o l m are)

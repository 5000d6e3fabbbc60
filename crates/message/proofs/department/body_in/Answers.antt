use Rattle.message.proofs.Chains.{both_give, fails}
use Rattle.message.proofs.department.body_in.Goals as goal

pub returns-in-Ok : goal.returns-in-Ok
returns-in-Ok c =
    let people = both_give _ _ _ _ _ c.in-Ok.ensures.is c.list_in-administrators.ensures c.list_in-rules.ensures in
    rw people c.body_after.ensures

pub returns-in-Err : goal.returns-in-Err
returns-in-Err c =
    fails _ _ _ (both_give _ _ _ _ _ c.in-Err.ensures.is c.list_in-administrators.ensures c.list_in-rules.ensures)

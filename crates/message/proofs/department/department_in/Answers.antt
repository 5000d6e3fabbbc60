use Rattle.std.proofs.Common.{refl}
use Rattle.message.proofs.Chains.{both_give, failed}
use Rattle.message.proofs.DepartmentParts.{in_parts}
use Rattle.message.proofs.department.department_in.Goals as goal

pub returns-in-Ok : goal.returns-in-Ok
returns-in-Ok c =
    let parts = both_give _ _ _ _ _ c.in-Ok.ensures.is c.text_after-name.ensures c.profile_in.ensures in
    rw (in_parts, parts, c.department_of.ensures) refl

pub returns-in-Err : goal.returns-in-Err
returns-in-Err c =
    rw in_parts (failed _ _ _ _
    (both_give _ _ _ _ _ c.in-Err.ensures.is c.text_after-name.ensures c.profile_in.ensures))

use Rattle.std.proofs.Common.{arith}
use Rattle.guard.proofs.policy_reader.departments_in.Goals as goal

pub department_at-requires : goal.department_at-requires
department_at-requires c =
    let before = c.loop-rest.invariant.counted in
    (c.loop-rest.invariant.started, omega (arith, before, c.in-len1-up.len_at_least, c.requires))

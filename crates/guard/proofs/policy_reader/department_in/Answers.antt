use Rattle.std.proofs.Common.{arith, Err, ap}
use Rattle.guard.proofs.PolicyLines.{bad_line_is_near}
use Rattle.guard.proofs.policy_reader.department_in.Goals as goal

pub overflow_add-result : goal.overflow_add-result
overflow_add-result c =
    let bad = c.in-Err-BadLine.ensures.fault c.in-Err-BadLine.line (ap Err c.in-Err-BadLine.field-0-is) in
    let near = bad_line_is_near c.args.text.now c.in-Err-BadLine.line bad in
    omega (arith, near, c.requires.number.0, c.requires.number.1, c.requires.size)

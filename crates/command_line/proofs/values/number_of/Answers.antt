use Rattle.std.proofs.Common.{arith}
use Rattle.command_line.proofs.Numbers.{is_read, none_read}
use Rattle.command_line.proofs.values.number_of.Goals as goal

pub returns-in-Ok-clause-number : goal.returns-in-Ok-clause-number
returns-in-Ok-clause-number c =
    let read = c.in-Ok.ensures.value.0 in
    is_read c.args.low c.args.high c.in-Ok.number c.args.text.now read.0 read.1 (omega arith) (omega arith)

pub returns-in-Err-clause-number : goal.returns-in-Err-clause-number
returns-in-Err-clause-number c =
    none_read c.args.low c.args.high c.args.text.now (λ within. c.in-Err.ensures.value.0 (within.0, within.1))

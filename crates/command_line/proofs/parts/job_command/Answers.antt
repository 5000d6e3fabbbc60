use Rattle.command_line.proofs.Commands.{one_part}
use Rattle.command_line.proofs.parts.job_command.Goals as goal

pub loop-part-preserved : goal.loop-part-preserved
loop-part-preserved c =
    one_part _ _ _ c.args.name.now c.args.parts.now c.loop-part.part-index _ c.loop-part-test.true c.loop-part.invariant
    c.argument.ensures c.in_ok-command.ensures

use Rattle.std.proofs.Common.{map, take}
use Rattle.command_line.specs.Command.{IsSubcommand, subcommand}
use Rattle.command_line.specs.Parts.{rule_of_part}
use Rattle.command_line.proofs.parts.job_command.Given as goal

abbrev pub invariant-loop-part : goal.invariant-loop-part
invariant-loop-part l = IsSubcommand (subcommand l.name (map rule_of_part (take l.part-index l.parts))) l.command

-- The parts that a job's command is made of.
use Rattle.std.specs.Prelude.{codes}
use Rattle.clap.specs.Words.{App, Rule, with_subcommand}
use Rattle.command_line.specs.Command.{number, number_word, on_database, optional, optional_number, required, word}
use Rattle.command_line.specs.Command.{words}
use Rattle.command_line.specs.declared.parts.Part.{Part}
use Rattle.command_line.specs.declared.parts.Part.TheVariants as part

-- clap's rule for an option or argument, whatever its help text
abbrev pub rule_of_part : Part → Rule
rule_of_part (part.Optional name value help) = optional name.now
rule_of_part (part.Required name value help) = required name.now
rule_of_part (part.Number name value low high help) = number name.now low high
rule_of_part (part.OptionalNumber name value low high help) = optional_number name.now low high
rule_of_part (part.Word name help) = word name.now
rule_of_part (part.NumberWord name low high help) = number_word name.now low high
rule_of_part (part.Words name help) = words name.now

-- a command with the subcommands that read an office
abbrev pub with_readings : App → App
with_readings app =
    let with_krl = with_subcommand app (on_database (codes "krl")) in
    with_subcommand (with_subcommand with_krl (on_database (codes "signers"))) (on_database (codes "table"))

use Rattle.std.proofs.Common.{◌∙◌, ap, true}
use Rattle.clap.specs.Simple.{app_of_fields}
use Rattle.clap.specs.Words.{App}
use Rattle.clap.specs.declared.builder.command.Command.{Command, Command-F}
use Rattle.station_command.proofs.command.top_command.Goals as goal

pub returns : goal.returns
returns c = ap app_of_fields c.subcommand_required.ensures
    ∙ ap (λ (f : Command-F Command). app_of_fields (record f { subcommand_required = true })) c.version.ensures
    ∙ ap (λ (a : App). record a { top = record a.top { has_version = true; subcommand_required = true } })
    c.plain_command-station.ensures.0

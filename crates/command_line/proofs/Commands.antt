-- A command with one more option, argument or subcommand.
use Rattle.std.proofs.Common.{◌≡◌, ◌∙◌, ◌+◌, ◌<◌, ◌||◌, ℕ, List, ap, ap₂, get_or, length, map, subst, sym, take}
use Rattle.std.proofs.lemmas.List.{map_push, take_more}
use Rattle.clap.specs.Words.{AddsArg, AddsSubcommand, App, Shape, Text, app_of, with_rule, with_subcommand}
use Rattle.clap.specs.declared.builder.arg.Arg.{Arg}
use Rattle.clap.specs.declared.builder.command.Command.{Command}
use Rattle.command_line.specs.Command.{IsArgument, IsSubcommand, subcommand}
use Rattle.command_line.specs.Parts.{rule_of_part}
use Rattle.command_line.specs.declared.parts.Part.{Part}

-- A command with the first k parts of a list, and then with the next one.
pub one_part : (old : Command) (a : Arg) (new : Command) (name : Text) (parts : List Part) (k : ℕ) (d : Part)
    → k < length parts → IsSubcommand (subcommand name (map rule_of_part (take k parts))) old
    → IsArgument (rule_of_part (get_or parts k d)) a → AddsArg old a new
    → IsSubcommand (subcommand name (map rule_of_part (take (k + 1) parts))) new
one_part old a new name parts k d within is arg adds =
    let next =
    ap (map rule_of_part) (take_more parts k d within) ∙ map_push rule_of_part (take k parts) (get_or parts k d) in
    subst (λ rules. IsSubcommand (subcommand name rules) new) (sym next)
    (adds.shape arg.1 ∙ ap₂ with_rule is.0 arg.0, adds.globals ∙ ap₂ (λ x y. x || y) is.1 arg.1)

-- A command with one more subcommand.
pub one_below : (old sub new : Command) (app : App) (shape : Shape) → app_of old ≡ app → IsSubcommand shape sub
    → AddsSubcommand old sub new → app_of new ≡ with_subcommand app shape
one_below old sub new app shape is below adds =
    adds.shape below.1 ∙ ap₂ with_subcommand is (ap (λ (a : App). a.top) below.0)

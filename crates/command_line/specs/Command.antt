-- The command line as clap reads it: each subcommand with its options and arguments.
use Rattle.std.specs.Prelude.{◌≡◌, ◌-◌, ◌^◌, ◌∷◌, [], ℕ, false, true, List, Some, codes}
use Rattle.clap.specs.Words.{App, Rule, Shape, Text, app_of, new_app, new_rule, rule_of}
use Rattle.clap.specs.declared.builder.arg.Arg.{Arg}
use Rattle.clap.specs.declared.builder.command.Command.{Command}
use Rattle.clap.specs.declared.builder.command.Command.TheViews.{out-Command}
use Rattle.clap.specs.declared.builder.action.ArgAction.TheVariants.{Append}
use Rattle.clap.specs.declared.builder.value_parser.ValueParser.TheVariants.{Unsigned}

-- the largest 64-bit number
abbrev pub most : ℕ
most = 2 ^ 64 - 1

-- `--name VALUE`, optional
abbrev pub optional : Text → Rule
optional name = record (new_rule name) { long = Some name; value_names = 1 }

-- `--name VALUE`, required
abbrev pub required : Text → Rule
required name = record (new_rule name) { long = Some name; value_names = 1; required = true }

-- `--name N`, required, with N from `low` to `high`
abbrev pub number : Text → ℕ → ℕ → Rule
number name low high = record (new_rule name) {
  long = Some name;
  value_names = 1;
  required = true;
  parser = Some (Unsigned low high);
}

-- a positional argument
abbrev pub word : Text → Rule
word name = record (new_rule name) { required = true }

-- a positional argument: a number from `low` to `high`
abbrev pub number_word : Text → ℕ → ℕ → Rule
number_word name low high = record (new_rule name) { required = true; parser = Some (Unsigned low high) }

-- `--name N`, optional, with N from `low` to `high`
abbrev pub optional_number : Text → ℕ → ℕ → Rule
optional_number name low high =
    record (new_rule name) { long = Some name; value_names = 1; parser = Some (Unsigned low high) }

-- one or more arguments, at the end
abbrev pub words : Text → Rule
words name = record (new_rule name) { required = true; action = Some Append }

-- a subcommand with these options and arguments
abbrev pub subcommand : Text → List Rule → Shape
subcommand name rules = record (new_app name).top { rules = rules }

-- init --db PATH --ca PATH --root NAME --station NAME --first N --last N
abbrev pub init_command : Shape
init_command = subcommand (codes "init") (
    required (codes "db") ∷ required (codes "ca") ∷ required (codes "root") ∷ required (codes "station")
    ∷ number (codes "first") 0 most ∷ number (codes "last") 0 most ∷ [])

-- apply [--db PATH] FILE
abbrev pub apply_command : Shape
apply_command = subcommand (codes "apply") (optional (codes "db") ∷ word (codes "FILE") ∷ [])

-- serve --db PATH --port P --connections N --nonces PATH
abbrev pub serve_command : Shape
serve_command = subcommand (codes "serve") (
    required (codes "db") ∷ number (codes "port") 0 65535
    ∷ number (codes "connections") 1 1000000 ∷ required (codes "nonces") ∷ [])

-- a subcommand for one database, for example `krl --db PATH`
abbrev pub on_database : Text → Shape
on_database name = subcommand name (required (codes "db") ∷ [])

-- check --ca PATH KRL SERIAL KEYID
abbrev pub check_command : Shape
check_command = subcommand (codes "check") (
    required (codes "ca") ∷ word (codes "KRL") ∷ number_word (codes "SERIAL") 1 most ∷ word (codes "KEYID") ∷ [])

abbrev pub selftest_command : Shape
selftest_command = subcommand (codes "selftest") []

-- `sshoffice`, which has a version and requires a subcommand
abbrev pub top_command : Shape
top_command = record (subcommand (codes "sshoffice") []) { subcommand_required = true; has_version = true }

-- the top command with these subcommands
abbrev pub with_commands : List Shape → App
with_commands subs = record { top = record top_command { is_leaf = false }; subs = subs }

-- the whole command
abbrev pub office_command : App
office_command = with_commands (init_command ∷ apply_command ∷ serve_command ∷ on_database (codes "krl")
    ∷ on_database (codes "signers") ∷ on_database (codes "table") ∷ check_command ∷ on_database (codes "migrate")
    ∷ selftest_command ∷ [])

-- The argument has this rule, at its own level only.
abbrev pub IsArgument : Rule → Arg → Type 0
IsArgument rule a = (rule_of a ≡ rule) × (a.global ≡ false)

-- The command has this shape, and no subcommand.
abbrev pub IsSubcommand : Shape → Command → Type 0
IsSubcommand shape c = (app_of c ≡ record { top = shape; subs = [] }) × ((out-Command c).has_globals ≡ false)

-- The command line of `sshstation` as clap reads it: each subcommand with its options and arguments.
use Rattle.std.specs.Prelude.{◌∷◌, [], false, true, codes}
use Rattle.clap.specs.Words.{App, Shape}
use Rattle.command_line.specs.Command.{most, number, number_word, on_database, optional_number, required, subcommand}
use Rattle.command_line.specs.Command.{word, words}
use Rattle.station_command.specs.Arguments.{flag, several, with_more}

-- init --db PATH --ca PATH --first N --last N
abbrev pub init_command : Shape
init_command = subcommand (codes "init") (
    required (codes "db") ∷ required (codes "ca") ∷ number (codes "first") 0 most
    ∷ number (codes "last") 0 most ∷ [])

-- judge --db PATH --policy PATH [--ahead SECONDS] BODY..
abbrev pub judge_command : Shape
judge_command = subcommand (codes "judge") (
    required (codes "db") ∷ required (codes "policy") ∷ optional_number (codes "ahead") 0 most
    ∷ words (codes "BODY") ∷ [])

-- body --db PATH SERIAL
abbrev pub body_command : Shape
body_command = subcommand (codes "body") (required (codes "db") ∷ number_word (codes "SERIAL") 1 most ∷ [])

-- policy FILE
abbrev pub policy_command : Shape
policy_command = subcommand (codes "policy") (word (codes "FILE") ∷ [])

-- retire --db PATH --last N
abbrev pub retire_command : Shape
retire_command = subcommand (codes "retire") (required (codes "db") ∷ number (codes "last") 0 most ∷ [])

-- lists --db PATH --init
abbrev pub lists_command : Shape
lists_command = with_more (subcommand (codes "lists") (required (codes "db") ∷ [])) (flag (codes "init"))

-- list --db PATH LIST --ca PATH .. [--begin]
abbrev pub list_command : Shape
list_command =
    with_more (with_more (subcommand (codes "list") (required (codes "db") ∷ word (codes "LIST") ∷ []))
    (several (codes "ca"))) (flag (codes "begin"))

-- `sshstation`, which has a version and requires a subcommand
abbrev pub top_command : Shape
top_command = record (subcommand (codes "sshstation") []) { subcommand_required = true; has_version = true }

-- the whole command; `bodies` has only a database
abbrev pub station_command : App
station_command = record {
  top = record top_command { is_leaf = false };
  subs = init_command ∷ judge_command ∷ on_database (codes "bodies") ∷ body_command ∷ policy_command
      ∷ retire_command ∷ lists_command ∷ list_command ∷ [];
}

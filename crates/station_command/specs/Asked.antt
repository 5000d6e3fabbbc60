-- What the words ask for: a subcommand with the values that clap finds for it.
use Rattle.std.specs.Prelude.{ℕ, List, Bool, Option, Some, None, codes, bytes_eq, map}
use Rattle.std.specs.Prelude.{if◌then◌else◌, option_and_then, option_map, string_bytes}
use Rattle.clap.specs.Words.{Row, Text, all_of, first_of, subcommand_of}
use Rattle.command_line.specs.Asked.{◌>>=◌, number_given, number_or}
use Rattle.command_line.specs.Command.{most}
use Rattle.station_command.specs.declared.job.StationJob.{StationJob}
use Rattle.station_command.specs.declared.job.StationJob.TheVariants as job
use Rattle.station_command.specs.Arguments.{is_set}
use Rattle.station_command.specs.Command.{station_command}

-- a job by the values of its texts, wherever they are in memory
pub data Asked : Type 0 where
  init : Text → Text → ℕ → ℕ → Asked
  judge : Text → Text → ℕ → List Text → Asked
  bodies : Text → Asked
  body : Text → ℕ → Asked
  policy : Text → Asked
  retire : Text → ℕ → Asked
  lists : Text → Asked
  list : Text → List Text → Bool → Text → Asked

abbrev pub asked : StationJob → Asked
asked (job.Init db ca first last) = init (string_bytes db) (string_bytes ca) first last
asked (job.Judge j) =
    judge (string_bytes j.db) (string_bytes j.policy) j.ahead (map string_bytes j.bodies.items)
asked (job.Bodies db) = bodies (string_bytes db)
asked (job.Body db serial) = body (string_bytes db) serial
asked (job.Policy file) = policy (string_bytes file)
asked (job.Retire db last) = retire (string_bytes db) last
asked (job.Lists db) = lists (string_bytes db)
asked (job.List l) =
    list (string_bytes l.db) (map string_bytes l.cas.items) l.begins (string_bytes l.list)

abbrev pub init_in : List Row → Option Asked
init_in rows = do
  db ← first_of (codes "db") rows
  ca ← first_of (codes "ca") rows
  first ← number_given rows (codes "first") 0 most
  last ← number_given rows (codes "last") 0 most
  Some (init db ca first last)

-- what `judge` asks for; without `--ahead`, the time ahead is an hour
abbrev pub judge_in : List Row → Option Asked
judge_in rows = do
  db ← first_of (codes "db") rows
  rules ← first_of (codes "policy") rows
  ahead ← number_or rows (codes "ahead") (0, most) 3600
  files ← all_of (codes "BODY") rows
  Some (judge db rules ahead files)

abbrev pub bodies_in : List Row → Option Asked
bodies_in rows = option_map bodies (first_of (codes "db") rows)

abbrev pub body_in : List Row → Option Asked
body_in rows = do
  db ← first_of (codes "db") rows
  serial ← number_given rows (codes "SERIAL") 1 most
  Some (body db serial)

abbrev pub policy_in : List Row → Option Asked
policy_in rows = option_map policy (first_of (codes "FILE") rows)

abbrev pub retire_in : List Row → Option Asked
retire_in rows = do
  db ← first_of (codes "db") rows
  last ← number_given rows (codes "last") 0 most
  Some (retire db last)

-- a guard of lists is created only if `--init` was given
abbrev pub lists_in : List Row → Option Asked
lists_in rows = if is_set rows (codes "init") then option_map lists (first_of (codes "db") rows) else None

abbrev pub list_in : List Row → Option Asked
list_in rows = do
  db ← first_of (codes "db") rows
  cas ← all_of (codes "ca") rows
  file ← first_of (codes "LIST") rows
  Some (list db cas (is_set rows (codes "begin")) file)

-- what the subcommand with this name asks for, with the values that clap found for it
abbrev pub asked_by : Text → List Row → Option Asked
asked_by name rows =
    if bytes_eq name (codes "init") then init_in rows
    else if bytes_eq name (codes "judge") then judge_in rows
    else if bytes_eq name (codes "bodies") then bodies_in rows
    else if bytes_eq name (codes "body") then body_in rows
    else if bytes_eq name (codes "policy") then policy_in rows
    else if bytes_eq name (codes "retire") then retire_in rows
    else if bytes_eq name (codes "lists") then lists_in rows
    else if bytes_eq name (codes "list") then list_in rows
    else None

-- what a subcommand asks for, if there is one
abbrev pub asked_in : Option (Text × List Row) → Option Asked
asked_in = option_and_then (λ found. asked_by found.0 found.1)

-- what the words ask for; the first is the program's name
abbrev pub asked_of : List Text → Option Asked
asked_of words = asked_in (subcommand_of station_command words)

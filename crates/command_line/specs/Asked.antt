-- What the words ask for: a subcommand with the values that clap finds for it.
use Rattle.std.specs.Prelude.{ℕ, List, Option, Some, None, codes, bytes_eq}
use Rattle.std.specs.Prelude.{if◌then◌else◌, option_and_then, option_map, string_bytes}
use Rattle.std.specs.Option.{option_map_or}
use Rattle.std.specs.Str.Parse.{digits_value, without_leading_plus}
use Rattle.clap.specs.ValueTests.{is_unsigned_in}
use Rattle.clap.specs.Words.{Row, Text, first_of, subcommand_of}
use Rattle.command_line.specs.Command.{most, office_command}
use Rattle.command_line.specs.declared.job.Job.{Job}
use Rattle.command_line.specs.declared.job.Job.TheVariants as job

-- a job by the values of its texts, wherever they are in memory
pub data Asked : Type 0 where
  init : Text → Text → Text → Text → ℕ → ℕ → Asked
  apply : Option Text → Text → Asked
  serve : Text → ℕ → ℕ → Text → Asked
  krl : Text → Asked
  signers : Text → Asked
  table : Text → Asked
  check : Text → Text → ℕ → Text → Asked
  migrate : Text → Asked
  selftest : Asked

abbrev pub asked : Job → Asked
asked (job.Init db ca root station first last) =
    init (string_bytes db) (string_bytes ca) (string_bytes root) (string_bytes station) first last
asked (job.Apply db file) = apply (option_map string_bytes db) (string_bytes file)
asked (job.Serve db port connections nonces) = serve (string_bytes db) port connections (string_bytes nonces)
asked (job.Krl db) = krl (string_bytes db)
asked (job.Signers db) = signers (string_bytes db)
asked (job.Table db) = table (string_bytes db)
asked (job.Check ca list serial key_id) = check (string_bytes ca) (string_bytes list) serial (string_bytes key_id)
asked (job.Migrate db) = migrate (string_bytes db)
asked job.Selftest = selftest

-- the number that `u64` parses from a text, if it is within these limits
abbrev pub number_within : ℕ → ℕ → Text → Option ℕ
number_within low high t = if is_unsigned_in low high t then Some (digits_value 10 (without_leading_plus t)) else None

-- the number that was given for an option or argument
abbrev pub number_given : List Row → Text → ℕ → ℕ → Option ℕ
number_given rows name low high = option_and_then (number_within low high) (first_of name rows)

-- the same for an option that may be omitted: then it is this number
abbrev pub number_or : List Row → Text → (limits : ℕ × ℕ) → ℕ → Option ℕ
number_or rows name limits none = option_map_or (number_within limits.0 limits.1) (first_of name rows) (Some none)

infixl 10 ◌>>=◌
abbrev pub ◌>>=◌ : {A B : Type 0} → Option A → (A → Option B) → Option B
o >>= f = option_and_then f o

abbrev pub init_in : List Row → Option Asked
init_in rows = do
  db ← first_of (codes "db") rows
  ca ← first_of (codes "ca") rows
  root ← first_of (codes "root") rows
  station ← first_of (codes "station") rows
  first ← number_given rows (codes "first") 0 most
  last ← number_given rows (codes "last") 0 most
  Some (init db ca root station first last)

abbrev pub apply_in : List Row → Option Asked
apply_in rows = option_map (apply (first_of (codes "db") rows)) (first_of (codes "FILE") rows)

abbrev pub serve_in : List Row → Option Asked
serve_in rows = do
  db ← first_of (codes "db") rows
  port ← number_given rows (codes "port") 0 65535
  connections ← number_given rows (codes "connections") 1 1000000
  nonces ← first_of (codes "nonces") rows
  Some (serve db port connections nonces)

abbrev pub check_in : List Row → Option Asked
check_in rows = do
  ca ← first_of (codes "ca") rows
  list ← first_of (codes "KRL") rows
  serial ← number_given rows (codes "SERIAL") 1 most
  key_id ← first_of (codes "KEYID") rows
  Some (check ca list serial key_id)

-- a job that has only a database
abbrev pub database_in : (Text → Asked) → List Row → Option Asked
database_in of rows = option_map of (first_of (codes "db") rows)

-- what the subcommand with this name asks for, with the values that clap found for it
abbrev pub asked_by : Text → List Row → Option Asked
asked_by name rows =
    if bytes_eq name (codes "init") then init_in rows
    else if bytes_eq name (codes "apply") then apply_in rows
    else if bytes_eq name (codes "serve") then serve_in rows
    else if bytes_eq name (codes "krl") then database_in krl rows
    else if bytes_eq name (codes "signers") then database_in signers rows
    else if bytes_eq name (codes "table") then database_in table rows
    else if bytes_eq name (codes "check") then check_in rows
    else if bytes_eq name (codes "migrate") then database_in migrate rows
    else if bytes_eq name (codes "selftest") then Some selftest
    else None

-- what a subcommand asks for, if there is one
abbrev pub asked_in : Option (Text × List Row) → Option Asked
asked_in = option_and_then (λ found. asked_by found.0 found.1)

-- what the words ask for; the first is the program's name
abbrev pub asked_of : List Text → Option Asked
asked_of words = asked_in (subcommand_of office_command words)

-- What is returned for the words.
use Rattle.std.specs.Prelude.{◌≡◌, ◌⊎◌, [], List, Some, None}
use Rattle.clap.specs.Words.{Text, fault_of}
use Rattle.command_line.specs.Answers.{AskForTextOf, HaveMistake}
use Rattle.command_line.specs.declared.words_fault.WordsFault.{WordsFault}
use Rattle.command_line.specs.declared.words_fault.WordsFault.TheVariants.{Help, BadWords, NoMemory}
use Rattle.station_command.specs.Asked.{asked, asked_of}
use Rattle.station_command.specs.Command.{station_command}
use Rattle.station_command.specs.declared.job.StationJob.{StationJob}

-- The words are valid for the command, according to clap's specification, and ask for the job.
abbrev pub Names : List Text → StationJob → Type 0
Names words job = (fault_of station_command words ≡ []) × (asked_of words ≡ Some (asked job))

-- The words are invalid, or ask for no job.
abbrev pub AreBad : List Text → Type 0
AreBad words = HaveMistake station_command words ⊎ (asked_of words ≡ None)

-- what a fault in place of a job implies about the words
abbrev pub IsFaultOf : List Text → WordsFault → Type 0
IsFaultOf words (Help text) = AskForTextOf station_command words
IsFaultOf words (BadWords text) = AreBad words
IsFaultOf words NoMemory = Unit {0}

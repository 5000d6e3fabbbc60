-- What is returned for the words.
use Rattle.std.specs.Prelude.{◌≡◌, ◌≢◌, ◌⊎◌, [], List, Option, Some, None}
use Rattle.clap.specs.Words.{App, IsAmong, Kinds, Text, fault_of}
use Rattle.clap.specs.declared.error.kind.ErrorKind.{ErrorKind}
use Rattle.clap.specs.declared.error.kind.ErrorKind.TheVariants.{DisplayHelp, DisplayVersion, OutOfMemory}
use Rattle.command_line.specs.Asked.{asked, asked_of}
use Rattle.command_line.specs.Command.{office_command}
use Rattle.command_line.specs.declared.words_fault.WordsFault.{WordsFault}
use Rattle.command_line.specs.declared.words_fault.WordsFault.TheVariants.{Help, BadWords, NoMemory}
use Rattle.command_line.specs.declared.job.Job.{Job}

-- the errors and requests for a text in the words, according to clap's specification
abbrev pub faults_of : List Text → Kinds
faults_of words = fault_of office_command words

-- The words are valid, and ask for the job.
abbrev pub Names : List Text → Job → Type 0
Names words job = (faults_of words ≡ []) × (asked_of words ≡ Some (asked job))

-- a kind that is neither a request for a text nor refused memory
abbrev pub IsMistake : ErrorKind → Type 0
IsMistake kind = (kind ≢ DisplayHelp) × (kind ≢ DisplayVersion) × (kind ≢ OutOfMemory)

-- a kind that is a request for a text
abbrev pub IsWish : ErrorKind → Type 0
IsWish kind = (kind ≡ DisplayHelp) ⊎ (kind ≡ DisplayVersion)

-- the words are invalid for a command, according to clap's specification
abbrev pub HaveMistake : App → List Text → Type 0
HaveMistake app words = (kind : ErrorKind) × IsAmong kind (fault_of app words) × IsMistake kind

-- the words ask for the help or the version of a command
abbrev pub AskForTextOf : App → List Text → Type 0
AskForTextOf app words = (kind : ErrorKind) × IsAmong kind (fault_of app words) × IsWish kind

-- The words are invalid, or ask for no job.
abbrev pub AreBad : List Text → Type 0
AreBad words = HaveMistake office_command words ⊎ (asked_of words ≡ None)

-- The words ask for help or the version.
abbrev pub AskForText : List Text → Type 0
AskForText = AskForTextOf office_command

-- what a fault in place of a job implies about the words
abbrev pub IsFaultOf : List Text → WordsFault → Type 0
IsFaultOf words (Help text) = AskForText words
IsFaultOf words (BadWords text) = AreBad words
IsFaultOf words NoMemory = Unit {0}

-- what the fault made from a clap error implies about a command's words
abbrev pub IsErrorOf : App → List Text → WordsFault → Type 0
IsErrorOf app words (Help text) = AskForTextOf app words
IsErrorOf app words (BadWords text) = HaveMistake app words
IsErrorOf app words NoMemory = Unit {0}

-- the fault that a clap error becomes
abbrev pub IsFaultOfClap : ErrorKind → WordsFault → Type 0
IsFaultOfClap kind (Help text) = IsWish kind
IsFaultOfClap kind (BadWords text) = IsMistake kind
IsFaultOfClap kind NoMemory = Unit {0}

-- the fault for a required value: `BadWords` only if there is none
abbrev pub IsLack : {A : Type 0} → Option A → WordsFault → Type 0
IsLack found (Help text) = ⊥
IsLack found (BadWords text) = found ≡ None
IsLack found NoMemory = Unit {0}

-- the fault for a value that is missing
abbrev pub IsLackOfAny : WordsFault → Type 0
IsLackOfAny (Help text) = ⊥
IsLackOfAny fault = Unit {0}

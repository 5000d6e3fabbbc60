-- How the program ends.
use Rattle.std.specs.Prelude.{ℕ, List, [], codes, Result, Ok, Err}
use Rattle.std.specs.declared.io.ErrorKind.{ErrorKind}
use Rattle.std.specs.declared.io.ErrorKind.TheVariants.{OutOfMemory}
use Rattle.command_line.specs.declared.words_fault.WordsFault.{WordsFault}
use Rattle.command_line.specs.declared.words_fault.WordsFault.TheVariants.{BadWords}
use Rattle.station_jobs.specs.declared.station_fault.StationFault.{StationFault}
use Rattle.station_jobs.specs.declared.station_fault.StationFault.TheVariants.{NoMemory}
use Rattle.station_jobs.specs.Names.{fault_line}

-- the exit status for a result
abbrev pub status : Result (Unit {0}) StationFault → ℕ
status (Ok done) = 0
status (Err e) = 1

-- the line that is printed of a result: none if it isn't a fault
abbrev pub result_line : Result (Unit {0}) StationFault → List ℕ
result_line (Ok done) = []
result_line (Err e) = fault_line e

-- the exit status if the words are unavailable: one isn't UTF-8, unless memory was refused
abbrev pub status_of_no_words : ErrorKind → ℕ
status_of_no_words OutOfMemory = 1
status_of_no_words _ = 2

-- the line if a word isn't UTF-8
abbrev pub bad_word_line : List ℕ
bad_word_line = codes "error: a word is not UTF-8\n"

-- the line that is printed if the words are unavailable
abbrev pub no_words_line : ErrorKind → List ℕ
no_words_line OutOfMemory = fault_line NoMemory
no_words_line _ = bad_word_line

-- the fault is that the words are invalid
abbrev pub IsOfBadWords : WordsFault → Type 0
IsOfBadWords (BadWords text) = Unit {0}
IsOfBadWords other = ⊥

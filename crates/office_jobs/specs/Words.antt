-- The answer to arguments that ask for no job.
use Rattle.std.specs.Prelude.{◌≡◌, ◌⊎◌, ℕ, List, [], Option, Result, Ok, Err, string_bytes}
use Rattle.std.specs.declared.io.ErrorKind.{ErrorKind}
use Rattle.std.specs.declared.io.ErrorKind.TheVariants.{OutOfMemory}
use Rattle.command_line.specs.declared.words_fault.WordsFault.{WordsFault}
use Rattle.std.specs.Io.KnownBytes.{Appends, Keeps}
use Rattle.wire.specs.Streams.{AppendsBeginning}
use Rattle.command_line.specs.declared.words_fault.WordsFault.TheVariants.{BadWords, Help, NoMemory}
use Rattle.office_jobs.specs.declared.job_fault.JobFault.{JobFault}
use Rattle.office_jobs.specs.declared.job_fault.JobFault.TheVariants as fault
use Rattle.office_jobs.specs.Names.{bad_word_line, fault_line}

-- the arguments are invalid
abbrev pub IsOfBadWords : WordsFault → Type 0
IsOfBadWords (BadWords text) = Unit {0}
IsOfBadWords other = ⊥

-- The text that was asked for is printed whole, and then the output is flushed. Or the output failed, a beginning of
-- the text is printed, and this is told. `Heeded` says how a result heeds the failures of the output.
abbrev pub Shows : (text : List ℕ) → (held holds : Option (List ℕ)) → (Told : List ℕ → Type 0)
    → (Heeded : Result ℕ JobFault → Type 0) → (status : ℕ) → Type 0
Shows text held holds Told Heeded status =
    (between : Option (List ℕ)) × Keeps between holds
    × (((status ≡ 0) × Told [] × Appends held between text × Heeded (Ok 0))
    ⊎ ((status ≡ 1) × Told (fault_line fault.Write) × AppendsBeginning held between text × Heeded (Err fault.Write)))

-- The status, and what is printed: the text that was asked for, to the output; or to the second output clap's text
-- about invalid arguments, or that memory was refused.
abbrev pub AnswersWords : WordsFault → (held holds : Option (List ℕ)) → (Told : List ℕ → Type 0)
    → (Heeded : Result ℕ JobFault → Type 0) → (status : ℕ) → Type 0
AnswersWords (Help text) held holds Told Heeded status = Shows (string_bytes text) held holds Told Heeded status
AnswersWords (BadWords text) held holds Told Heeded status = (status ≡ 2) × (holds ≡ held) × Told (string_bytes text)
AnswersWords NoMemory held holds Told Heeded status = (status ≡ 1) × (holds ≡ held) × Told (fault_line fault.NoMemory)

-- The status if the arguments can't be read: one isn't UTF-8, unless memory was refused.
abbrev pub status_of_no_words : ErrorKind → ℕ
status_of_no_words OutOfMemory = 1
status_of_no_words _ = 2

-- the line that is printed then
abbrev pub no_words_line : ErrorKind → List ℕ
no_words_line OutOfMemory = fault_line fault.NoMemory
no_words_line _ = bad_word_line

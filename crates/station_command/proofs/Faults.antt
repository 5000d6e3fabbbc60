-- Faults in place of a job.
use Rattle.std.proofs.Common.{◌≡◌, ◌⊎◌, ◌∙◌, true, List, Option, None, ap, subst, sym, inl, inr}
use Rattle.clap.specs.Words.{App, IsAmong, Text, fault_of, is_simple_and_free}
use Rattle.clap.specs.declared.error.kind.ErrorKind.{ErrorKind}
use Rattle.clap.specs.declared.error.kind.ErrorKind.TheVariants.{OutOfMemory}
use Rattle.command_line.specs.Answers.{IsFaultOfClap, IsErrorOf, IsLack}
use Rattle.command_line.specs.declared.words_fault.WordsFault.{WordsFault}
use Rattle.command_line.specs.declared.words_fault.WordsFault.TheVariants.{Help, BadWords, NoMemory}
use Rattle.command_line.proofs.Faults.{error_says}
use Rattle.station_command.specs.Answers.{IsFaultOf}
use Rattle.station_command.specs.Asked.{Asked, asked_of}
use Rattle.station_command.specs.Command.{station_command}

-- The fault for words that ask for no job.
pub lack_is_fault : (words : List Text) (found : Option Asked) (fault : WordsFault) → found ≡ asked_of words → IsLack found fault
    → IsFaultOf words fault
lack_is_fault words found (Help text) same lack = absurd lack
lack_is_fault words found (BadWords text) same lack = inr (sym same ∙ lack)
lack_is_fault words found NoMemory same lack = tt

-- An error of clap as a fault of the words.
pub error_is_fault : (app : App) (words : List Text) (kind : ErrorKind) (fault : WordsFault) → app ≡ station_command
    → IsFaultOfClap kind fault → (is_simple_and_free app ≡ true → (kind ≡ OutOfMemory) ⊎ IsAmong kind (fault_of app words))
    → IsFaultOf words fault
error_is_fault app words kind fault same answered among =
    go fault (error_says station_command words kind fault answered
    (subst (λ (a : App). (kind ≡ OutOfMemory) ⊎ IsAmong kind (fault_of a words)) same (among (ap is_simple_and_free same))))
  where
    go : (fault : WordsFault) → IsErrorOf station_command words fault → IsFaultOf words fault
    go (Help text) says = says
    go (BadWords text) says = inl says
    go NoMemory says = tt

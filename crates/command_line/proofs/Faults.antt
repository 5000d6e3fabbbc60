-- Faults in place of a job.
use Rattle.std.proofs.Common.{◌≡◌, ◌⊎◌, ◌∙◌, true, List, Option, None, ap, subst, sym, inl, inr}
use Rattle.clap.specs.Words.{App, IsAmong, Text, fault_of, is_simple_and_free}
use Rattle.clap.specs.declared.error.kind.ErrorKind.{ErrorKind}
use Rattle.clap.specs.declared.error.kind.ErrorKind.TheVariants.{OutOfMemory}
use Rattle.command_line.specs.Answers.{IsFaultOfClap, IsErrorOf, IsFaultOf, IsLack, IsLackOfAny}
use Rattle.command_line.specs.Asked.{Asked, asked_of}
use Rattle.command_line.specs.Command.{office_command}
use Rattle.command_line.specs.declared.words_fault.WordsFault.{WordsFault}
use Rattle.command_line.specs.declared.words_fault.WordsFault.TheVariants.{Help, BadWords, NoMemory}

-- The fault for a value that is missing.
pub lacks : {A : Type 0} (found : Option A) (fault : WordsFault) → found ≡ None → IsLackOfAny fault → IsLack found fault
lacks found (Help text) none any = absurd any
lacks found (BadWords text) none any = none
lacks found NoMemory none any = tt

-- If `other` is `None` whenever `one` is, then a fault for `one` is a fault for `other`.
pub lacks_too : {A B : Type 0} (one : Option A) (other : Option B) (fault : WordsFault) → (one ≡ None → other ≡ None) → IsLack one fault
    → IsLack other fault
lacks_too one other (Help text) leads lack = absurd lack
lacks_too one other (BadWords text) leads lack = leads lack
lacks_too one other NoMemory leads lack = tt

-- The fault for words that ask for no job.
pub lack_is_fault : (words : List Text) (found : Option Asked) (fault : WordsFault) → found ≡ asked_of words → IsLack found fault
    → IsFaultOf words fault
lack_is_fault words found (Help text) same lack = absurd lack
lack_is_fault words found (BadWords text) same lack = inr (sym same ∙ lack)
lack_is_fault words found NoMemory same lack = tt

-- An error of clap as a fault of the words.
pub error_says : (app : App) (words : List Text) (kind : ErrorKind) (fault : WordsFault) → IsFaultOfClap kind fault
    → (kind ≡ OutOfMemory) ⊎ IsAmong kind (fault_of app words) → IsErrorOf app words fault
error_says app words kind (Help text) (inl help) (inl none) = absurd cc
error_says app words kind (Help text) (inr version) (inl none) = absurd cc
error_says app words kind (Help text) answered (inr among) = (kind, among, answered)
error_says app words kind (BadWords text) answered (inl none) = absurd (answered.2 none)
error_says app words kind (BadWords text) answered (inr among) = (kind, among, answered)
error_says app words kind NoMemory answered among = tt

-- The same for the office's command.
pub error_is_fault : (app : App) (words : List Text) (kind : ErrorKind) (fault : WordsFault) → app ≡ office_command
    → IsFaultOfClap kind fault → (is_simple_and_free app ≡ true → (kind ≡ OutOfMemory) ⊎ IsAmong kind (fault_of app words))
    → IsFaultOf words fault
error_is_fault app words kind fault same answered among =
    go fault (error_says office_command words kind fault answered
    (subst (λ (a : App). (kind ≡ OutOfMemory) ⊎ IsAmong kind (fault_of a words)) same (among (ap is_simple_and_free same))))
  where
    go : (fault : WordsFault) → IsErrorOf office_command words fault → IsFaultOf words fault
    go (Help text) says = says
    go (BadWords text) says = inl says
    go NoMemory says = tt

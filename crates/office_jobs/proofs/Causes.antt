-- Which faults can occur.
use Rattle.office_jobs.proofs.Words.{BadExchange, Err, Fault, File, IfErr, IfSome, IsOfATrial, IsOfExchanges}
use Rattle.office_jobs.proofs.Words.{JobFault, List, NoMemory, None, Ok, Option, Result, RunFault, Some, StoreFault}
use Rattle.office_jobs.proofs.Words.{Write, of_store, refl, run_result, subst, sym, ℕ, ◌≡◌, ◌≢◌}
use Rattle.std.specs.declared.io.ErrorKind.TheVariants.{OutOfMemory}
use Rattle.lines.specs.declared.key_line.LineFault.{LineFault}
use Rattle.lines.specs.declared.key_line.LineFault.TheVariants as bad
use Rattle.office.specs.declared.store_fault.StoreFault.TheVariants as store
use Rattle.exchanges.specs.declared.running.RunFault.TheVariants as run
use Rattle.office_jobs.specs.declared.file_reader.ReadFault.{ReadFault}
use Rattle.office_jobs.specs.declared.file_reader.ReadFault.TheVariants.{Failed, TooLong}
use Rattle.lines.specs.Reading.{IsLineFault}
use Rattle.office_jobs.specs.declared.job_fault.JobFault.TheVariants.{Line}
use Rattle.office_jobs.specs.Faults.{IsOfChecking, of_line, of_reading}
use Rattle.office_jobs.specs.Reading.{HasNoKey, IsLineOf}

-- ---- reading a key

-- a file that isn't read has no key
pub key_file : (file : Option (List ℕ)) (e : ReadFault) → HasNoKey file (of_reading e)
key_file file TooLong = tt
key_file file (Failed OutOfMemory) = tt
key_file file (Failed other) = tt

-- nor has one whose line has a fault
pub key_line : (text line : List ℕ) → IsLineOf text line → (e : LineFault) → IsLineFault line e
    → HasNoKey (Some text) (of_line e)
key_line text line cut bad.NoMemory h = tt
key_line text line cut other h = (line, cut, h)

-- the text is that of the file, if that is known
pub key_text : (text : List ℕ) (file : Option (List ℕ)) (e : JobFault) → IfSome file (λ bytes. text ≡ bytes)
    → HasNoKey (Some text) e → HasNoKey file e
key_text text (Some bytes) e same h = subst (λ t. HasNoKey (Some t) e) same h
key_text text None File same h = tt
key_text text None NoMemory same h = tt
key_text text None (Line bad.NoMemory) same h = absurd h
key_text text None (Line fault) same h = tt
key_text text None other same h = absurd h

-- ---- checking a list

pub list_file : (e : ReadFault) → IsOfChecking (of_reading e)
list_file TooLong = tt
list_file (Failed OutOfMemory) = tt
list_file (Failed other) = tt

pub verdict : {T : Type 0} (r : Result T JobFault) → IfErr r (λ e. e ≡ Write) → IfErr r IsOfChecking
verdict (Ok x) h = tt
verdict (Err e) h = subst IsOfChecking (sym h) tt

-- ---- a batch over the in-memory office

pub of_file : (e : JobFault) → IsOfExchanges e → IsOfATrial e
of_file File h = tt
of_file NoMemory h = tt
of_file (BadExchange k) h = tt
of_file other h = absurd h

-- these faults occur before any exchange is run
pub not_run : (e : JobFault) → IsOfExchanges e → ¬ (e ≡ Fault)
not_run e h same = subst IsOfExchanges same h

pub of_office : (e : StoreFault) → IsOfATrial (of_store e)
of_office store.NoMemory = tt
of_office other = tt

pub trial_run : (r : Result (Unit {0}) RunFault) → IfErr (run_result r) IsOfATrial
trial_run (Ok done) = tt
trial_run (Err run.NoMemory) = tt
trial_run (Err run.Write) = tt
trial_run (Err run.Fault) = tt

-- a batch that wasn't run printed nothing
run_silent : (P : Type 0) (r : Result (Unit {0}) RunFault) → (r ≡ Err run.NoMemory → P)
    → IfErr (run_result r) (λ e. e ≢ Write → e ≢ Fault → P)
run_silent P (Ok done) h = tt
run_silent P (Err run.NoMemory) h = λ _ _. h refl
run_silent P (Err run.Write) h = λ other _. absurd (other refl)
run_silent P (Err run.Fault) h = λ _ other. absurd (other refl)

pub silent : (P : Type 0) (r : Result (Unit {0}) RunFault) (came : Result (Unit {0}) JobFault) → came ≡ run_result r
    → (r ≡ Err run.NoMemory → P) → IfErr came (λ e. e ≢ Write → e ≢ Fault → P)
silent P r came same h = subst (λ d. IfErr d (λ e. e ≢ Write → e ≢ Fault → P)) (sym same) (run_silent P r h)

-- What is printed to the second output: each fault by its name, on a line.
use Rattle.std.specs.Prelude.{◌≡◌, ◌++◌, ◌∷◌, ℕ, List, [], codes, Option, Result, Ok, Err}
use Rattle.std.specs.Fmt.{decimal}
use Rattle.std.specs.Io.KnownBytes.{Appends}
use Rattle.lines.specs.declared.key_line.LineFault.{LineFault}
use Rattle.lines.specs.declared.key_line.LineFault.TheVariants as line
use Rattle.krl.specs.declared.krl_fault.KrlFault.{KrlFault}
use Rattle.krl.specs.declared.krl_fault.KrlFault.TheVariants as list
use Rattle.office.specs.declared.opening.OpeningFault.{OpeningFault}
use Rattle.office.specs.declared.opening.OpeningFault.TheVariants as opening
use Rattle.office.specs.declared.store_fault.StoreFault.{StoreFault}
use Rattle.office.specs.declared.store_fault.StoreFault.TheVariants as store
use Rattle.server.specs.Names.{fault_name}
use Rattle.office_jobs.specs.declared.job_fault.JobFault.{JobFault}
use Rattle.office_jobs.specs.declared.job_fault.JobFault.TheVariants.{File, Write, Socket, Connection, Fault}
use Rattle.office_jobs.specs.declared.job_fault.JobFault.TheVariants.{BadExchange, Line, List as OfList, Mismatch}
use Rattle.office_jobs.specs.declared.job_fault.JobFault.TheVariants.{NoMemory, Opening, Store}

-- ---- names

abbrev pub line_fault_name : LineFault → List ℕ
line_fault_name line.WrongType = codes "WrongType"
line_fault_name line.BadBase64 = codes "BadBase64"
line_fault_name line.BadBlob = codes "BadBlob"
line_fault_name line.BadComment = codes "BadComment"
line_fault_name line.NoMemory = codes "NoMemory"

abbrev pub opening_fault_name : OpeningFault → List ℕ
opening_fault_name opening.BadName = codes "BadName"
opening_fault_name opening.SameName = codes "SameName"
opening_fault_name opening.BadSerials = codes "BadSerials"

abbrev pub list_fault_name : KrlFault → List ℕ
list_fault_name list.Truncated = codes "Truncated"
list_fault_name list.BadMagic = codes "BadMagic"
list_fault_name list.BadVersion = codes "BadVersion"
list_fault_name list.BadFlags = codes "BadFlags"
list_fault_name (list.Unsupported kind) = codes "Unsupported(" ++ (decimal kind ++ codes ")")
list_fault_name list.BadSection = codes "BadSection"

abbrev pub store_fault_name : StoreFault → List ℕ
store_fault_name store.AlreadyAnOffice = codes "AlreadyAnOffice"
store_fault_name store.NotAnOffice = codes "NotAnOffice"
store_fault_name store.WrongSchema = codes "WrongSchema"
store_fault_name store.Damaged = codes "Damaged"
store_fault_name store.Device = codes "Device"
store_fault_name store.NoMemory = codes "NoMemory"

-- the name of a job's fault
abbrev pub job_fault_name : JobFault → List ℕ
job_fault_name File = codes "File"
job_fault_name Write = codes "Write"
job_fault_name Socket = codes "Socket"
job_fault_name (Connection fault) = fault_name fault
job_fault_name Mismatch = codes "Mismatch"
job_fault_name NoMemory = codes "NoMemory"
job_fault_name (BadExchange record_number) = codes "BadExchange " ++ decimal record_number
job_fault_name (Line fault) = line_fault_name fault
job_fault_name (Opening fault) = opening_fault_name fault
job_fault_name (OfList fault) = list_fault_name fault
job_fault_name (Store fault) = store_fault_name fault
job_fault_name Fault = codes "Fault"

-- ---- lines

-- the line of a fault
abbrev pub fault_line : JobFault → List ℕ
fault_line fault = codes "sshoffice: " ++ (job_fault_name fault ++ 10 ∷ [])

-- the line of a result: none if it isn't a fault
abbrev pub result_line : {A : Type 0} → Result A JobFault → List ℕ
result_line (Ok x) = []
result_line (Err fault) = fault_line fault

-- the line if an argument isn't UTF-8
abbrev pub bad_word_line : List ℕ
bad_word_line = codes "error: a word is not UTF-8\n"

-- An output counts its calls that failed. If none has failed meanwhile, it has taken exactly this text. What it doesn't
-- take is lost.
abbrev pub Takes : (failed failed' : ℕ) → (taken taken' : Option (List ℕ)) → (text : List ℕ) → Type 0
Takes failed failed' taken taken' text = failed' ≡ failed → Appends taken taken' text

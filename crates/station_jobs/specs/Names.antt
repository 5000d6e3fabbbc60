-- What is printed to the second output: each fault by its name, on a line.
use Rattle.std.specs.Prelude.{◌≡◌, ◌++◌, ◌∷◌, ℕ, List, [], codes, decimal, Option}
use Rattle.std.specs.Io.KnownBytes.{Appends}
use Rattle.lines.specs.declared.key_line.LineFault.{LineFault}
use Rattle.lines.specs.declared.key_line.LineFault.TheVariants as line
use Rattle.station_jobs.specs.declared.station_fault.StationFault.{StationFault}
use Rattle.station_jobs.specs.declared.station_fault.StationFault.TheVariants as fault

-- ---- names

abbrev pub line_fault_name : LineFault → List ℕ
line_fault_name line.WrongType = codes "WrongType"
line_fault_name line.BadBase64 = codes "BadBase64"
line_fault_name line.BadBlob = codes "BadBlob"
line_fault_name line.BadComment = codes "BadComment"
line_fault_name line.NoMemory = codes "NoMemory"

-- the name of a job's fault
abbrev pub station_fault_name : StationFault → List ℕ
station_fault_name fault.File = codes "File"
station_fault_name fault.Input = codes "Input"
station_fault_name fault.Write = codes "Write"
station_fault_name fault.NoMemory = codes "NoMemory"
station_fault_name fault.Clock = codes "Clock"
station_fault_name (fault.BadPolicy line_number) = codes "BadPolicy " ++ decimal line_number
station_fault_name (fault.Line e) = line_fault_name e
station_fault_name fault.BadSerials = codes "BadSerials"
station_fault_name fault.SerialApproved = codes "SerialApproved"
station_fault_name fault.UnknownSerial = codes "UnknownSerial"
station_fault_name fault.AlreadyAGuard = codes "AlreadyAGuard"
station_fault_name fault.NotAGuard = codes "NotAGuard"
station_fault_name fault.WrongSchema = codes "WrongSchema"
station_fault_name fault.Damaged = codes "Damaged"
station_fault_name fault.Device = codes "Device"

-- ---- lines

-- the line of a fault
abbrev pub fault_line : StationFault → List ℕ
fault_line e = codes "sshstation: " ++ (station_fault_name e ++ 10 ∷ [])

-- An output counts its calls that failed. If none has failed meanwhile, it has taken exactly this text. What it doesn't
-- take is lost.
abbrev pub Takes : (failed failed' : ℕ) → (taken taken' : Option (List ℕ)) → (text : List ℕ) → Type 0
Takes failed failed' taken taken' text = failed' ≡ failed → Appends taken taken' text

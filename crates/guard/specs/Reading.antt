-- What reading an unsigned certificate (body) returns.
use Rattle.std.specs.Prelude.{◌≡◌, ◌≢◌, ◌<◌, ◌≤◌, ℕ, List, length, Result, Ok, Err, Some, None}
use Rattle.cert.specs.Reading.{body_at}
use Rattle.cert.specs.declared.cert_fault.CertFault.TheVariants as cert
use Rattle.cert.specs.declared.fields.CertFields.{CertFields}
use Rattle.guard.specs.declared.body.BodyFault.{BodyFault}
use Rattle.guard.specs.declared.body.BodyFault.TheVariants as fault
use Rattle.guard.specs.State.{fields_of}

-- the fields of the body, or a fault if it has none, unless memory was refused
abbrev pub Gives : Result CertFields BodyFault → List ℕ → Type 0
Gives (Ok c) bytes = fields_of bytes ≡ Some c
Gives (Err fault.TooLong) bytes = fields_of bytes ≡ None
Gives (Err (fault.NotOfTheProfile e)) bytes = fields_of bytes ≡ None
Gives (Err fault.NoMemory) bytes = Unit {0}

-- what each fault means for the bytes
abbrev pub IsFault : List ℕ → BodyFault → Type 0
IsFault bytes fault.TooLong = 16384 < length bytes
IsFault bytes (fault.NotOfTheProfile e) = (length bytes ≤ 16384) × (body_at bytes ≡ Err e) × (e ≢ cert.NoMemory)
IsFault bytes fault.NoMemory = Unit {0}

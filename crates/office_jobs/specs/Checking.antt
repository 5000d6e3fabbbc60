-- What is printed about a certificate.
use Rattle.std.specs.Prelude.{◌≡◌, ◌≢◌, ℕ, List, Bool, Option, Result, Err, IfErr, IfSome, OnOk, codes, if◌then◌else◌}
use Rattle.std.specs.Io.KnownBytes.{Appends}
use Rattle.wire.specs.Streams.{AppendsBeginning}
use Rattle.lines.specs.Keys.{key_blob}
use Rattle.krl.specs.Faults.{FirstFault}
use Rattle.krl.specs.Reading.{ReadsList}
use Rattle.krl.specs.declared.krl_fault.KrlFault.{KrlFault}
use Rattle.office_jobs.specs.declared.job_fault.JobFault.{JobFault}
use Rattle.office_jobs.specs.declared.job_fault.JobFault.TheVariants as job
use Rattle.office_jobs.specs.Faults.{IsOfChecking}

abbrev pub verdict_text : Bool → List ℕ
verdict_text revoked = if revoked then codes "revoked\n" else codes "clear\n"

-- the printed text is the verdict of the list with these bytes on this serial and key ID under this CA
pub record Checks (bytes ca : List ℕ) (serial : ℕ) (key_id : List ℕ) (held holds : Option (List ℕ)) : Type 0 where
  pub revoked : Bool
  pub reads : ReadsList bytes (key_blob ca) serial key_id revoked
  pub printed : Appends held holds (verdict_text revoked)

-- the same, but a call of the output failed: a beginning of that is printed
pub record ChecksPart (bytes ca : List ℕ) (serial : ℕ) (key_id : List ℕ) (held holds : Option (List ℕ)) : Type 0 where
  pub revoked : Bool
  pub reads : ReadsList bytes (key_blob ca) serial key_id revoked
  pub printed : AppendsBeginning held holds (verdict_text revoked)

-- The outcome for a list's file. The verdict is printed, or a beginning of it if the output failed, or the first fault
-- of the bytes is reported. After any fault except the output's, nothing is printed.
pub record ChecksFile (file : Option (List ℕ)) (ca : List ℕ) (serial : ℕ) (key_id : List ℕ)
    (held holds : Option (List ℕ)) (result : Result (Unit {0}) JobFault) : Type 0 where
  pub ok : OnOk result (IfSome file (λ bytes. Checks bytes ca serial key_id held holds))
  pub part : result ≡ Err job.Write → IfSome file (λ bytes. ChecksPart bytes ca serial key_id held holds)
  pub fault : (f : KrlFault) → result ≡ Err (job.List f) → IfSome file (λ bytes. FirstFault bytes f)
  pub only : IfErr result IsOfChecking
  pub silent : IfErr result (λ e. e ≢ job.Write → holds ≡ held)

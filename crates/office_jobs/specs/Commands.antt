-- The complete effect of a job: which files are opened and in which order, what is done in the database, what is
-- printed, and the status.
use Rattle.std.specs.Prelude.{◌≡◌, ◌⊎◌, ◌++◌, ◌∷◌, ℕ, List, [], codes, Option, Some, None, Result, Ok, Err}
use Rattle.std.specs.Prelude.{string_bytes}
use Rattle.std.specs.Io.KnownBytes.{Keeps}
use Rattle.sqlite_trees.specs.declared.store.Store as store
use Rattle.sqlite.specs.Held.{Held}
use Rattle.lines.specs.declared.key_line.KeyLine.{KeyLine}
use Rattle.office.specs.declared.store_fault.StoreFault.{StoreFault}
use Rattle.office.specs.Openings.{made_opening}
use Rattle.server.specs.Books.{Book}
use Rattle.server.specs.declared.connection_fault.SelftestFault.{SelftestFault}
use Rattle.command_line.specs.declared.job.Job.{Job}
use Rattle.command_line.specs.declared.job.Job.TheVariants as job
use Rattle.command_line.specs.declared.words_fault.WordsFault.{WordsFault}
use Rattle.command_line.specs.Answers.{IsFaultOf, Names}
use Rattle.office_jobs.specs.declared.world.World.{Ghosts}
use Rattle.office_jobs.specs.declared.job_fault.JobFault.{JobFault}
use Rattle.office_jobs.specs.declared.job_fault.JobFault.TheVariants.{Write}
use Rattle.office_jobs.specs.declared.job.OfficeJob.{OfficeJob}
use Rattle.office_jobs.specs.declared.job.OfficeJob.TheVariants as office
use Rattle.office_jobs.specs.Asked.{AsksOffice}
use Rattle.office_jobs.specs.Checking.{ChecksFile}
use Rattle.office_jobs.specs.Faults.{of_store, test_result}
use Rattle.office_jobs.specs.Finding.{OpensThere, WithFile}
use Rattle.office_jobs.specs.Jobs.{DoesOfficeJob, Wants, told_text}
use Rattle.office_jobs.specs.Names.{result_line}
use Rattle.office_jobs.specs.Steps.{Follows}
use Rattle.office_jobs.specs.Trial.{TriesFile}
use Rattle.office_jobs.specs.TrialOffice.{opening_of, trial_arrival}
use Rattle.office_jobs.specs.Words.{AnswersWords}
use Rattle.office_jobs.specs.Whole.{AppliesIn, DoesIn, FoundsIn, IsKeyOf, PrintsText, ServesIn}

-- the job is a server
abbrev pub IsServing : Job → Type 0
IsServing (job.Serve db port connections nonces) = Unit {0}
IsServing other = ⊥

-- A job that was done has status 0, unless flushing its output fails; a fault of the job is kept.
abbrev pub IsFlushed : Result (Unit {0}) JobFault → Result ℕ JobFault → Type 0
IsFlushed (Ok done) result = (result ≡ Ok 0) ⊎ (result ≡ Err Write)
IsFlushed (Err e) result = result ≡ Err e

-- This was done and printed, and then the output was flushed.
pub record EndsCommand (Did : (between : Option (List ℕ)) → Result (Unit {0}) JobFault → Type 0)
    (holds : Option (List ℕ)) (result : Result ℕ JobFault) : Type 0 where
  pub between : Option (List ℕ)
  pub done : Result (Unit {0}) JobFault
  pub did : Did between done
  pub kept : Keeps between holds
  pub flushed : IsFlushed done result

-- the status: 1 for a fault
abbrev pub status_by : Result ℕ JobFault → ℕ
status_by (Ok status) = status
status_by (Err e) = 1

-- The world is `w` before and `w'` after.
module _ {W File Conn Incoming Reader Writer : Type 0} (world : Ghosts W File Conn Incoming Reader Writer) (w w' : W)
  where
    -- The in-memory office, with its one department, served itself a request, and the outcome is reported. Or that
    -- office couldn't be made.
    abbrev pub TestsItself : (held holds : Option (List ℕ)) → Result (Unit {0}) JobFault → Type 0
    TestsItself held holds result =
        ((e : StoreFault) × (result ≡ Err (of_store e)) × (w' ≡ w) × (holds ≡ held))
        ⊎ ((tested : Result (Unit {0}) SelftestFault)
        × world.tests w (opening_of 1 9223372036854775806) (trial_arrival ∷ []) tested w'
        × Follows (λ _. PrintsText (codes "selftest ok\n") held holds) (holds ≡ held) (test_result tested) result)

-- The same, with `remaining` for the bytes that a file has left to read.
module _ {W File Conn Incoming Reader Writer : Type 0} (world : Ghosts W File Conn Incoming Reader Writer)
    (remaining : File → Option (List ℕ)) (w w' : W) where
  -- With the key of the CA's file, the list at the path was checked for a certificate. Or that file has no key, and
  -- nothing is opened after it.
  pub record ChecksIn (list : List ℕ) (serial : ℕ) (key_id : List ℕ) (ca held holds : Option (List ℕ))
      (result : Result (Unit {0}) JobFault) : Type 0 where
    pub key : Result KeyLine JobFault
    pub is_key : IsKeyOf ca key
    pub checks : Follows
        (λ k. WithFile world remaining w w' list
        (λ bytes opened r. (w' ≡ opened) × ChecksFile bytes k.key serial key_id held holds r) (holds ≡ held))
        ((w' ≡ w) × (holds ≡ held)) key result

-- The same, with `book` for a listener's record of its connections.
module _ {W File Tables Incoming Reader Writer : Type 0} (store : store.Ghosts Tables)
    (world : Ghosts W File (Held Tables) Incoming Reader Writer) (remaining : File → Option (List ℕ))
    (book : Incoming → Option Book) (w w' : W) where
  -- a job that asks the office in a database, which has to exist
  abbrev pub Asks : OfficeJob → (db : List ℕ) → (held holds : Option (List ℕ)) → Result (Unit {0}) JobFault → Type 0
  Asks asked db held holds result =
      DoesIn store world book w w' (OpensThere world db) (Wants store asked) (DoesOfficeJob asked) (AsksOffice asked)
      (told_text asked) held holds result

  -- The effect of each job except a server.
  abbrev pub DoesJob : Job → (held holds : Option (List ℕ)) → Result (Unit {0}) JobFault → Type 0
  DoesJob (job.Init db ca root station first last) held holds result =
      WithFile world remaining w w' (string_bytes ca)
      (λ text opened. FoundsIn store world book opened w' (string_bytes db)
      (λ key. made_opening key (string_bytes root) (string_bytes station) first last) text held holds) (holds ≡ held)
      result
  DoesJob (job.Apply None file) held holds result =
      WithFile world remaining w w' (string_bytes file)
      (λ text opened r. (w' ≡ opened) × TriesFile text held holds r) (holds ≡ held) result
  DoesJob (job.Apply (Some db) file) held holds result =
      WithFile world remaining w w' (string_bytes file)
      (λ text opened. AppliesIn store world book opened w' (string_bytes db) text held holds) (holds ≡ held) result
  DoesJob (job.Krl db) held holds result = Asks office.Krl (string_bytes db) held holds result
  DoesJob (job.Signers db) held holds result = Asks office.Signers (string_bytes db) held holds result
  DoesJob (job.Table db) held holds result = Asks office.Table (string_bytes db) held holds result
  DoesJob (job.Migrate db) held holds result = Asks office.Migrate (string_bytes db) held holds result
  DoesJob (job.Check ca list serial key_id) held holds result =
      WithFile world remaining w w' (string_bytes ca)
      (λ key opened. ChecksIn world remaining opened w' (string_bytes list) serial (string_bytes key_id) key held holds)
      (holds ≡ held) result
  DoesJob job.Selftest held holds result = TestsItself world w w' held holds result
  DoesJob other held holds result = ⊥

  -- The effect of each job. `said` has the lines of the faults of connections: only a server has any.
  abbrev pub Runs : Job → (held holds : Option (List ℕ)) → (said : List ℕ) → Result ℕ JobFault → Type 0
  Runs (job.Serve db port connections nonces) held holds said result =
      WithFile world remaining w w' (string_bytes nonces)
      (λ source opened. ServesIn store world book opened w' (string_bytes db) port connections source held holds said)
      ((holds ≡ held) × (said ≡ [])) result
  Runs other held holds said result = EndsCommand (DoesJob other held) holds result × (said ≡ [])

  -- The same, with the status, and with what the second output takes: the lines of the connections' faults, and then
  -- that of the job's fault. `Heeded` says how a result heeds the failures of the output.
  pub record RunsJob (job : Job) (held holds : Option (List ℕ)) (Told : List ℕ → Type 0)
      (Heeded : Result ℕ JobFault → Type 0) (status : ℕ) : Type 0 where
    pub result : Result ℕ JobFault
    pub said : List ℕ
    pub runs : Runs job held holds said result
    pub is_its : status ≡ status_by result
    pub told : Told (said ++ result_line result)
    pub heeds : Heeded result

  -- The arguments name a job, and this was its effect. Or they name none, nothing was asked of the world, and this is
  -- what they were answered with. `Told` says which text the second output takes.
  abbrev pub RunsWords : (words : List (List ℕ)) → (held holds : Option (List ℕ)) → (Told : List ℕ → Type 0)
      → (Heeded : Result ℕ JobFault → Type 0) → (status : ℕ) → Type 0
  RunsWords words held holds Told Heeded status =
      ((job : Job) × Names words job × RunsJob job held holds Told Heeded status)
      ⊎ ((fault : WordsFault) × IsFaultOf words fault × (w' ≡ w) × AnswersWords fault held holds Told Heeded status)

-- The same in a world that had this property before, and has that one afterwards.
pub record RunsWordsOver {W File Tables Incoming Reader Writer : Type 0} (store : store.Ghosts Tables)
    (world : Ghosts W File (Held Tables) Incoming Reader Writer) (remaining : File → Option (List ℕ))
    (book : Incoming → Option Book) (Begins Left : W → Type 0) (words : List (List ℕ)) (held holds : Option (List ℕ))
    (Told : List ℕ → Type 0) (Heeded : Result ℕ JobFault → Type 0) (status : ℕ) : Type 0 where
  pub before : W
  pub after : W
  pub begins : Begins before
  pub left : Left after
  pub runs : RunsWords store world remaining book before after words held holds Told Heeded status

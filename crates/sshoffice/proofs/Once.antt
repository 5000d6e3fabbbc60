-- A job opens a database at most once. In a world that changes only when a database is opened or closed, the last of
-- these calls decides what the world is in the end.
use Rattle.std.proofs.Common.{Err, List, None, Ok, Option, Result, Some, inl, inr, refl, subst, sym, ℕ, ◌∙◌, ◌≡◌}
use Rattle.std.specs.Prelude.{Bool, string_bytes}
use Rattle.std.specs.declared.io.ErrorKind.{ErrorKind}
use Rattle.sqlite_disk.specs.declared.Disk as disk
use Rattle.sqlite_wal.specs.Recovery.{Image}
use Rattle.sqlite_trees.specs.declared.store.Store as store
use Rattle.sqlite_store.specs.declared.store.FileStore.{FileStore}
use Rattle.sqlite.specs.declared.error.Error.{Error}
use Rattle.sqlite.specs.Held.{Held}
use Rattle.office.specs.declared.opening.Opening.{Opening}
use Rattle.office.specs.declared.arrival.Arrival.{Arrival}
use Rattle.files.specs.declared.ending.EndFault.{EndFault}
use Rattle.restart.specs.Lives.{Asked}
use Rattle.server.specs.Books.{Book}
use Rattle.server.specs.declared.connection_fault.SelftestFault.{SelftestFault}
use Rattle.command_line.specs.declared.job.Job.{Job}
use Rattle.command_line.specs.declared.job.Job.TheVariants as job
use Rattle.office_jobs.specs.declared.world.World.{Ghosts}
use Rattle.office_jobs.specs.declared.job_fault.JobFault.{JobFault}
use Rattle.office_jobs.specs.Commands.{ChecksIn, DoesJob, Runs, RunsWords, TestsItself}
use Rattle.office_jobs.specs.Finding.{OpensAfter, OpensNew, OpensThere, WithFile, found_open}
use Rattle.office_jobs.specs.Steps.{Follows}
use Rattle.office_jobs.specs.Whole.{AppliesIn, DoesIn, FoundsIn, RunsOver, ServesIn}
use Rattle.sshoffice.specs.declared.database_files.DatabaseFiles.{DatabaseFiles}
use Rattle.sshoffice.specs.declared.database_files.DatabaseFiles.TheVariants.{Unopened}
use Rattle.sshoffice.specs.DatabaseFiles.{AreGivenBack, AreLeftAs, ClosesFiles, OpensOnce}
use Rattle.sshoffice.proofs.Kept.{not_openable, not_opened, were_left}

-- the calls that change nothing
pub record IsStill {W File Conn Incoming Reader Writer : Type 0} (world : Ghosts W File Conn Incoming Reader Writer)
    : Type 0 where
  pub reads : (w w' : W) (path : List ℕ) (r : Result File ErrorKind) → world.reads w path r w' → w' ≡ w
  pub finds : (w w' : W) (path : List ℕ) (r : Result Bool ErrorKind) → world.finds w path r w' → w' ≡ w
  pub makes : (w w' : W) (path : List ℕ) (r : Result (Unit {0}) ErrorKind) → world.makes w path r w' → w' ≡ w
  pub tests : (w w' : W) (o : Opening) (l : List Arrival) (r : Result (Unit {0}) SelftestFault)
      → world.tests w o l r w' → w' ≡ w

-- the first step's result, or the second step's
followed : {A B : Type 0} (Used : A → Result B JobFault → Type 0) (Nothing Goal : Type 0)
    (first : Result A JobFault) (result : Result B JobFault) → Follows Used Nothing first result
    → ((x : A) → Used x result → Goal) → (Nothing → Goal) → Goal
followed Used Nothing Goal (Ok x) result h used none = used x h
followed Used Nothing Goal (Err e) result h used none = none h.1

-- What the world becomes: `Is` holds before a database is opened, after an open that failed, and after a close.
module _ {W File Tables Incoming Reader Writer : Type 0} (store : store.Ghosts Tables)
    (world : Ghosts W File (Held Tables) Incoming Reader Writer) (remaining : File → Option (List ℕ))
    (book : Incoming → Option Book) (still : IsStill world) (w w' : W) (Is : W → Type 0) (begins : Is w)
    (fails : (path : List ℕ) (error : Error) (after : W) → world.opens w path (Err error) after → Is after)
    (ends : (between : W) (last : Held Tables) (closing : Result (Unit {0}) EndFault)
    → world.closes between last closing w' → Is w')
  where
    the_same : (after : W) → after ≡ w → Is after
    the_same after same = subst Is (sym same) begins

    -- ---- opening

    unopened : (path : List ℕ) (ready after : W) (e : JobFault) (got : Result (Held Tables) Error) → ready ≡ w
        → world.opens ready path got after → Err e ≡ found_open got → Is after
    unopened path ready after e (Ok conn) same opens came = absurd cc
    unopened path ready after e (Err error) same opens came =
        fails path error after (subst (λ (x : W). world.opens x path (Err error) after) same opens)

    unopened_after : (path : List ℕ) (before after : W) (e : JobFault)
        (First : W → Result (Unit {0}) JobFault → W → Type 0)
        → ((x y : W) (r : Result (Unit {0}) JobFault) → First x r y → y ≡ x) → before ≡ w
        → OpensAfter world path First before (Err e) after → Is after
    unopened_after path before after e First stays same opens =
        let ready : opens.ready ≡ w = stays before opens.ready opens.first opens.is_ready ∙ same in
        followed _ _ (Is after) opens.first (Err e) opens.opened
        (λ done opened. unopened path opens.ready after e opened.got ready opened.is_opened opened.came)
        (λ none. the_same after (none ∙ ready))

    unopened_there : (path : List ℕ) (before after : W) (e : JobFault) → before ≡ w
        → OpensThere world path before (Err e) after → Is after
    unopened_there path before after e same opens =
        unopened_after path before after e _ (λ x y r found. still.finds x y path found.0 found.1) same opens

    unopened_new : (path : List ℕ) (before after : W) (e : JobFault) → before ≡ w
        → OpensNew world path before (Err e) after → Is after
    unopened_new path before after e same opens =
        unopened_after path before after e _ (λ x y r made. still.makes x y path made.0 made.1) same opens

    -- ---- jobs over a database

    module _ (before : W) (same : before ≡ w) where
      ran_in : {A : Type 0} (Open : W → Result (Held Tables) JobFault → W → Type 0)
          (Did : W → W → Held Tables → Held Tables → Result A JobFault → Type 0)
          (Asks : (x y : W) (conn last : Held Tables) (r : Result A JobFault) → Did x y conn last r → Asked → Type 0)
          (Nothing : Type 0) (result : Result A JobFault) (found : Result (Held Tables) JobFault) (opened : W)
          → ((e : JobFault) (after : W) → Open before (Err e) after → Is after)
          → Open before found opened
          → Follows (RunsOver store world book before w' Did Asks opened) ((w' ≡ opened) × Nothing) found result → Is w'
      ran_in Open Did Asks Nothing result (Ok conn) opened failed is_opened ran =
          ends ran.between ran.last ran.closing ran.is_closed
      ran_in Open Did Asks Nothing result (Err e) opened failed is_opened ran =
          subst Is (sym ran.1.0) (failed e opened is_opened)

      did_there : (db : List ℕ) {Wants : _} {Did : _} {Asks : _} {told : List ℕ} {held holds : Option (List ℕ)}
          (result : Result (Unit {0}) JobFault)
          → DoesIn store world book before w' (OpensThere world db) Wants Did Asks told held holds result → Is w'
      did_there db result did =
          ran_in (OpensThere world db) _ _ _ did.done did.ran.found did.ran.opened
          (λ e after. unopened_there db before after e same)
          did.ran.is_opened did.ran.ran

      did_new : (db : List ℕ) {Wants : _} {Did : _} {Asks : _} {told : List ℕ} {held holds : Option (List ℕ)}
          (result : Result (Unit {0}) JobFault)
          → DoesIn store world book before w' (OpensNew world db) Wants Did Asks told held holds result → Is w'
      did_new db result did =
          ran_in (OpensNew world db) _ _ _ did.done did.ran.found did.ran.opened
          (λ e after. unopened_new db before after e same)
          did.ran.is_opened did.ran.ran

      applied : (db : List ℕ) {file held holds : Option (List ℕ)} (result : Result (Unit {0}) JobFault)
          → AppliesIn store world book before w' db file held holds result → Is w'
      applied db result h =
          followed _ _ (Is w') h.exchanges result h.applied (λ es did. did_there db result did)
          (λ none. the_same w' (none.0 ∙ same))

      founded : (db : List ℕ) {due : _} {file held holds : Option (List ℕ)} (result : Result (Unit {0}) JobFault)
          → FoundsIn store world book before w' db due file held holds result → Is w'
      founded db result h =
          followed _ _ (Is w') h.opening result h.made (λ o did. did_new db result did)
          (λ none. the_same w' (none.0 ∙ same))

      served : (db : List ℕ) {port connections : ℕ} {nonces held holds : Option (List ℕ)} {said : List ℕ}
          (result : Result ℕ JobFault)
          → ServesIn store world book before w' db port connections nonces held holds said result → Is w'
      served db result h =
          ran_in (OpensThere world db) _ _ _ result h.found h.opened
          (λ e after. unopened_there db before after e same) h.is_opened h.ran

      -- ---- jobs with a file

      with_file : {A : Type 0} {path : List ℕ} {Used : Option (List ℕ) → W → Result A JobFault → Type 0}
          {Nothing : Type 0} (result : Result A JobFault)
          → WithFile world remaining before w' path Used Nothing result
          → ((text : Option (List ℕ)) (opened : W) → opened ≡ w → Used text opened result → Is w') → Is w'
      with_file {A} {path} result h used =
          let opened : h.opened ≡ w = still.reads before h.opened path h.is_opened.got h.is_opened.is_opened ∙ same in
          followed _ _ (Is w') h.file result h.used (λ file it. used (remaining file) h.opened opened it)
          (λ none. the_same w' (none.0 ∙ opened))

    checked : (before : W) → before ≡ w → (list : List ℕ) (serial : ℕ) {key_id : List ℕ}
        {ca held holds : Option (List ℕ)} (result : Result (Unit {0}) JobFault)
        → ChecksIn world remaining before w' list serial key_id ca held holds result → Is w'
    checked before same list serial result h =
        followed _ _ (Is w') h.key result h.checks
        (λ k it. with_file before same result it (λ bytes opened is it. the_same w' (it.0 ∙ is)))
        (λ none. the_same w' (none.0 ∙ same))

    tested : {held holds : Option (List ℕ)} (result : Result (Unit {0}) JobFault)
        → TestsItself world w w' held holds result → Is w'
    tested result (inl unmade) = the_same w' unmade.2
    tested result (inr it) = the_same w' (still.tests w w' _ _ it.0 it.1)

    -- ---- each job

    did_job : (asked : Job) (held holds : Option (List ℕ)) (result : Result (Unit {0}) JobFault)
        → DoesJob store world remaining book w w' asked held holds result → Is w'
    did_job (job.Init db ca root station first last) held holds result h =
        with_file w refl result h (λ text opened same it. founded opened same (string_bytes db) result it)
    did_job (job.Apply None file) held holds result h =
        with_file w refl result h (λ text opened same it. the_same w' (it.0 ∙ same))
    did_job (job.Apply (Some db) file) held holds result h =
        with_file w refl result h (λ text opened same it. applied opened same (string_bytes db) result it)
    did_job (job.Krl db) held holds result h = did_there w refl (string_bytes db) result h
    did_job (job.Signers db) held holds result h = did_there w refl (string_bytes db) result h
    did_job (job.Table db) held holds result h = did_there w refl (string_bytes db) result h
    did_job (job.Migrate db) held holds result h = did_there w refl (string_bytes db) result h
    did_job (job.Check ca list serial key_id) held holds result h =
        with_file w refl result h (λ key opened same it. checked opened same (string_bytes list) serial result it)
    did_job job.Selftest held holds result h = tested result h
    did_job (job.Serve db port connections nonces) held holds result h = absurd h

    ran_job : (asked : Job) (held holds : Option (List ℕ)) (said : List ℕ) (result : Result ℕ JobFault)
        → Runs store world remaining book w w' asked held holds said result → Is w'
    ran_job (job.Serve db port connections nonces) held holds said result h =
        with_file w refl result h (λ source opened same it. served opened same (string_bytes db) result it)
    ran_job (job.Init db ca root station first last) held holds said result h =
        did_job (job.Init db ca root station first last) held h.0.between h.0.done h.0.did
    ran_job (job.Apply None file) held holds said result h =
        did_job (job.Apply None file) held h.0.between h.0.done h.0.did
    ran_job (job.Apply (Some db) file) held holds said result h =
        did_job (job.Apply (Some db) file) held h.0.between h.0.done h.0.did
    ran_job (job.Krl db) held holds said result h = did_job (job.Krl db) held h.0.between h.0.done h.0.did
    ran_job (job.Signers db) held holds said result h = did_job (job.Signers db) held h.0.between h.0.done h.0.did
    ran_job (job.Table db) held holds said result h = did_job (job.Table db) held h.0.between h.0.done h.0.did
    ran_job (job.Migrate db) held holds said result h = did_job (job.Migrate db) held h.0.between h.0.done h.0.did
    ran_job (job.Check ca list serial key_id) held holds said result h =
        did_job (job.Check ca list serial key_id) held h.0.between h.0.done h.0.did
    ran_job job.Selftest held holds said result h = did_job job.Selftest held h.0.between h.0.done h.0.did

    becomes : (words : List (List ℕ)) (held holds : Option (List ℕ)) (Told : List ℕ → Type 0)
        (Heeded : Result ℕ JobFault → Type 0) (status : ℕ)
        → RunsWords store world remaining book w w' words held holds Told Heeded status → Is w'
    becomes words held holds Told Heeded status (inl it) = ran_job it.0 held holds it.2.said it.2.result it.2.runs
    becomes words held holds Told Heeded status (inr it) = the_same w' it.2

-- what became of the files of a database that weren't opened before
pub given_back : {S D W File Incoming Reader Writer : Type 0} {g : disk.Ghosts D} (store : store.Ghosts (FileStore D g))
    (world : Ghosts W File (Held (FileStore D g)) Incoming Reader Writer) (remaining : File → Option (List ℕ))
    (book : Incoming → Option Book) (still : IsStill world) (w w' : W) (image : Image) (start : S)
    (files_of : W → DatabaseFiles S D)
    → ((before after : W) (path : List ℕ) (found : Result (Held (FileStore D g)) Error)
    → world.opens before path found after → OpensOnce image (files_of before) found (files_of after))
    → ((between after : W) (last : Held (FileStore D g)) (closing : Result (Unit {0}) EndFault)
    → world.closes between last closing after → AreLeftAs (ClosesFiles last closing) (files_of after))
    → files_of w ≡ Unopened start → (words : List (List ℕ)) (held holds : Option (List ℕ)) (Told : List ℕ → Type 0)
    (Heeded : Result ℕ JobFault → Type 0) (status : ℕ)
    → RunsWords store world remaining book w w' words held holds Told Heeded status
    → (files : DatabaseFiles S D) → files ≡ files_of w' → AreGivenBack g image start files
given_back {S} {D} {W} {File} {Incoming} {Reader} {Writer} {g} store world remaining book still w w' image start
    files_of opens closes begins words held holds Told Heeded status runs files same =
    subst (λ (it : DatabaseFiles S D). AreGivenBack g image start it) (sym same)
    (becomes store world remaining book still w w' (λ it. AreGivenBack g image start (files_of it))
    (not_opened g image start (files_of w) begins)
    (λ path error after opened. not_openable g image start (files_of w) (files_of after) error begins
    (opens w after path (Err error) opened))
    (λ between last closing closed. were_left g image start (files_of w') (ClosesFiles last closing)
    (closes between w' last closing closed))
    words held holds Told Heeded status runs)

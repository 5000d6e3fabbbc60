-- Opening files, and finding or making databases and opening them.
use Rattle.std.specs.Prelude.{◌≡◌, ℕ, List, Bool, false, true, Option, Result, Ok, Err}
use Rattle.std.specs.declared.io.ErrorKind.{ErrorKind}
use Rattle.std.specs.declared.io.ErrorKind.TheVariants.{OutOfMemory}
use Rattle.sqlite.specs.declared.error.Error.{Error}
use Rattle.office.specs.declared.store_fault.StoreFault.TheVariants.{Device, NotAnOffice}
use Rattle.office_jobs.specs.declared.world.World.{Ghosts}
use Rattle.office_jobs.specs.declared.job_fault.JobFault.{JobFault}
use Rattle.office_jobs.specs.declared.job_fault.JobFault.TheVariants.{NoMemory, Store}
use Rattle.office_jobs.specs.declared.job.OfficeJob.{OfficeJob}
use Rattle.office_jobs.specs.declared.job.OfficeJob.TheVariants.{Init}
use Rattle.office_jobs.specs.Ending.{of_database}
use Rattle.office_jobs.specs.Faults.{of_file}
use Rattle.office_jobs.specs.Steps.{Follows}

-- ---- faults

-- the file that was opened, or the fault
abbrev pub found_file : {A : Type 0} → Result A ErrorKind → Result A JobFault
found_file (Ok file) = Ok file
found_file (Err kind) = Err (of_file kind)

-- for a database that can't be looked up or made, from the kind of the error
abbrev pub of_look : ErrorKind → JobFault
of_look OutOfMemory = NoMemory
of_look _ = Store Device

-- the database exists, or this is the fault
abbrev pub of_looking : Result Bool ErrorKind → Result (Unit {0}) JobFault
of_looking (Ok true) = Ok tt
of_looking (Ok false) = Err (Store NotAnOffice)
of_looking (Err kind) = Err (of_look kind)

-- the database is made, or this is the fault
abbrev pub of_making : Result (Unit {0}) ErrorKind → Result (Unit {0}) JobFault
of_making (Ok done) = Ok done
of_making (Err kind) = Err (of_look kind)

-- the connection that was opened, or the fault
abbrev pub found_open : {A : Type 0} → Result A Error → Result A JobFault
found_open (Ok conn) = Ok conn
found_open (Err error) = Err (of_database error)

-- ---- in a world

module _ {W File Conn Incoming Reader Writer : Type 0} (world : Ghosts W File Conn Incoming Reader Writer)
    (path : List ℕ) where
  -- the file at the path was opened, with this result
  pub record Reads (w : W) (file : Result File JobFault) (w' : W) : Type 0 where
    pub got : Result File ErrorKind
    pub is_opened : world.reads w path got w'
    pub came : file ≡ found_file got

  -- the database at the path was opened, with this result
  pub record Opens (w : W) (found : Result Conn JobFault) (w' : W) : Type 0 where
    pub got : Result Conn Error
    pub is_opened : world.opens w path got w'
    pub came : found ≡ found_open got

  -- A first step, and then the database was opened. If the first step failed, its fault is the result, and nothing was
  -- opened.
  pub record OpensAfter (First : W → Result (Unit {0}) JobFault → W → Type 0) (w : W)
      (found : Result Conn JobFault) (w' : W) : Type 0 where
    pub first : Result (Unit {0}) JobFault
    pub ready : W
    pub is_ready : First w first ready
    pub opened : Follows (λ _ found. Opens ready found w') (w' ≡ ready) first found

  -- the database was looked up, and opened if it exists
  abbrev pub OpensThere : W → Result Conn JobFault → W → Type 0
  OpensThere =
      OpensAfter (λ w first ready.
      (there : Result Bool ErrorKind) × world.finds w path there ready × (first ≡ of_looking there))

  -- the database was made, if it didn't exist, and opened
  abbrev pub OpensNew : W → Result Conn JobFault → W → Type 0
  OpensNew =
      OpensAfter (λ w first ready.
      (made : Result (Unit {0}) ErrorKind) × world.makes w path made ready × (first ≡ of_making made))

  -- The database of a new office is made if it doesn't exist. Any other has to exist.
  abbrev pub OpensFor : OfficeJob → W → Result Conn JobFault → W → Type 0
  OpensFor (Init opening) = OpensNew
  OpensFor other = OpensThere

-- The world is `w` before and `w'` after, and `remaining` is what a file has left to read.
module _ {W File Conn Incoming Reader Writer : Type 0} (world : Ghosts W File Conn Incoming Reader Writer)
    (remaining : File → Option (List ℕ)) (w w' : W) where
  -- The file at a path was opened first, and its contents were used. Or it wasn't opened, and nothing else was done.
  pub record WithFile {A : Type 0} (path : List ℕ)
      (Used : (text : Option (List ℕ)) → (opened : W) → Result A JobFault → Type 0) (Nothing : Type 0)
      (result : Result A JobFault) : Type 0 where
    pub file : Result File JobFault
    pub opened : W
    pub is_opened : Reads world path w file opened
    pub used : Follows (λ it. Used (remaining it) opened) ((w' ≡ opened) × Nothing) file result

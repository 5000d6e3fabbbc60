-- The complete effect on a world: what is opened, made, listened at and closed, in which order, and what is done in
-- between.
use Rattle.std.specs.Prelude.{◌≡◌, ◌⊎◌, ◌∷◌, ℕ, List, [], Option, Some, None, Result, Ok, Err, IfOk, IfSome}
use Rattle.std.specs.Prelude.{IsTrue}
use Rattle.std.specs.declared.io.ErrorKind.{ErrorKind}
use Rattle.std.specs.declared.net.socket_addr.SocketAddrV4.{SocketAddrV4}
use Rattle.std.specs.Io.KnownBytes.{Appends}
use Rattle.wire.specs.Streams.{AppendsBeginning}
use Rattle.std.specs.Net.Addr.{ipv4_octets}
use Rattle.std.specs.Net.Socket.{v4_ip, v4_port}
use Rattle.sqlite_trees.specs.declared.store.Store as store
use Rattle.sqlite.specs.declared.error.Error.{Error}
use Rattle.sqlite.specs.Held.{Held, state}
use Rattle.sqlite.specs.State.{HasCleanDisk, State}
use Rattle.sqlite_wal.specs.Recovery.{Image}
use Rattle.store_sql.specs.Honest.{IsOutside, IsUnlimited, On, StaysClean}
use Rattle.lines.specs.declared.key_line.KeyLine.{KeyLine}
use Rattle.office.specs.declared.opening.Opening.{Opening}
use Rattle.office.specs.declared.opening.OpeningFault.{OpeningFault}
use Rattle.store.specs.Transactions.{IsAtRest}
use Rattle.files.specs.declared.ending.EndFault.{EndFault}
use Rattle.restart.specs.Ending.{IsEnd}
use Rattle.restart.specs.Lives.{Asked, End}
use Rattle.restart.specs.Lives.End.{closed as closed_end}
use Rattle.restart.specs.Runs.{AddsArrivals, AreRuns, DoesOver, KeepsOffice, RunsOn}
use Rattle.web.specs.declared.exchange.Exchange.{Exchange}
use Rattle.exchanges.specs.Exchanges.{AreExchanges, IsBadRecord, exchanges_text}
use Rattle.server.specs.Books.{Book}
use Rattle.office_jobs.specs.declared.world.World.{Ghosts}
use Rattle.office_jobs.specs.declared.job_fault.JobFault.{JobFault}
use Rattle.office_jobs.specs.declared.job_fault.JobFault.TheVariants.{BadExchange, Write}
use Rattle.office_jobs.specs.Applying.{AppliesAll}
use Rattle.office_jobs.specs.Asked.{AsksExchanges, AsksServing, IsIdle, founding_asked}
use Rattle.office_jobs.specs.Ending.{closed}
use Rattle.office_jobs.specs.Faults.{IsOfAnOpening, IsOfExchanges}
use Rattle.office_jobs.specs.Finding.{OpensNew, OpensThere}
use Rattle.office_jobs.specs.Jobs.{WantsNone, WantsOffice}
use Rattle.office_jobs.specs.Making.{MakesOffice, ready_text}
use Rattle.office_jobs.specs.Reading.{HasNoKey, IsKeyText}
use Rattle.office_jobs.specs.Serving.{Heard, ServesOffice}
use Rattle.office_jobs.specs.Steps.{Follows}

-- ---- databases

-- No transaction is open, and queries may take any number of steps. If the disk has returned what was written, the
-- connection is open, and it shows what is committed.
pub record IsReady {S : Type 0} (store : store.Ghosts S) (conn : Held S) : Type 0 where
  pub outside : IsOutside store conn
  pub unlimited : IsUnlimited store conn
  pub rests : HasCleanDisk (state store conn) → IsTrue (state store conn).is_open × IsAtRest (state store conn)

-- A disk that is faithful at the end was faithful at the beginning, and a connection that is open at the end represents
-- each history that was represented, with arrivals after it.
abbrev pub Adds : {S : Type 0} → store.Ghosts S → (opened last : Held S) → Type 0
Adds store opened last =
    HasCleanDisk (state store last) → HasCleanDisk (state store opened)
    × (IsTrue (state store last).is_open → AddsArrivals (state store opened) (state store last))

-- The guarantees of a world's databases. An opened database is ready. If arrivals were added to it and it closed well,
-- then anything that a crash may leave of the files holds the office that they held, with arrivals after it. And if
-- what was asked was done over it, and it was closed well or given up, then this was a run of the program, whatever a
-- crash makes of the files. All this assumes a disk that has returned what was written.
pub record KeepsDatabases {W File Tables Incoming Reader Writer : Type 0} (store : store.Ghosts Tables)
    (world : Ghosts W File (Held Tables) Incoming Reader Writer) : Type 0 where
  pub ready : (w : W) (path : List ℕ) (found : Result (Held Tables) Error) (w' : W) → world.opens w path found w'
      → IfOk found (IsReady store)
  pub keeps : (w opened between w' : W) (path : List ℕ) (conn last : Held Tables) → world.opens w path (Ok conn) opened
      → Adds store conn last → world.closes between last (Ok tt) w' → world.is_clean w' last
      → KeepsOffice world.image (world.leaves w' last)
  pub ends : (w opened between w' : W) (path : List ℕ) (conn last : Held Tables) (closing : Result (Unit {0}) EndFault)
      (end : End) → world.opens w path (Ok conn) opened → world.closes between last closing w' → IsEnd closing end
      → world.is_clean w' last
      → HasCleanDisk (state store last)
      × ((asked : Asked) → DoesOver store asked conn last → AreRuns world.image asked end (world.leaves w' last))

-- A run that was asked something, and gave no response. If it left the files as it found them, it is a run of the
-- program, and extends each lifetime that has left them.
pub record IdlesOn (Gave : Asked → Type 0) (image : Image) : Type 0 where
  pub on : RunsOn Gave image closed_end (λ left. left ≡ image)
  pub idle : IsIdle on.asked

-- this was printed, or the output failed and a beginning of it is printed
abbrev pub PrintsText : List ℕ → (held holds : Option (List ℕ)) → Result (Unit {0}) JobFault → Type 0
PrintsText told held holds (Ok done) = Appends held holds told
PrintsText told held holds (Err e) = (e ≡ Write) × AppendsBeginning held holds told

-- ---- the contents of files

-- the exchanges of this file, or why it has none
abbrev pub AreOf : Option (List ℕ) → Result (List Exchange) JobFault → Type 0
AreOf file (Ok es) = IfSome file (λ text. AreExchanges es × (text ≡ exchanges_text es))
AreOf file (Err e) = IsOfExchanges e × ((k : ℕ) → e ≡ BadExchange k → IfSome file (λ text. IsBadRecord text k))

-- the key of this file, or why it has none
abbrev pub IsKeyOf : Option (List ℕ) → Result KeyLine JobFault → Type 0
IsKeyOf file (Ok k) = IfSome file (λ text. IsKeyText text k)
IsKeyOf file (Err e) = HasNoKey file e

-- the initial configuration that is specified for the key of this file, or why there is none
abbrev pub GivesOpening : Option (List ℕ) → (due : List ℕ → Result Opening OpeningFault) → Result Opening JobFault
    → Type 0
GivesOpening file due (Ok o) = (k : KeyLine) × IfSome file (λ text. IsKeyText text k) × (due k.key ≡ Ok o)
GivesOpening file due (Err e) =
    HasNoKey file e ⊎ ((k : KeyLine) × IfSome file (λ text. IsKeyText text k) × IsOfAnOpening (due k.key) e)

-- ---- listening

-- the address 127.0.0.1 with this port
pub record IsLoopback (at : ℕ) (address : SocketAddrV4) : Type 0 where
  pub ip : ipv4_octets (v4_ip address) ≡ 127 ∷ 0 ∷ 0 ∷ 1 ∷ []
  pub port : v4_port address ≡ at

-- the result of listening, with the listener's book
abbrev pub heard_of : {Incoming : Type 0} → (Incoming → Option Book) → Option (Result (Incoming × ℕ) ErrorKind) → Heard
heard_of book None = None
heard_of book (Some (Err kind)) = Some (Err kind)
heard_of book (Some (Ok at)) = Some (Ok (book at.0, at.1))

module _ {W File Conn Incoming Reader Writer : Type 0} (world : Ghosts W File Conn Incoming Reader Writer) where
  -- listening at this port had this result
  abbrev pub Listens : ℕ → W → Result (Incoming × ℕ) ErrorKind → W → Type 0
  Listens port before heard after =
      (address : SocketAddrV4) × IsLoopback port address × world.listens before address heard after

  -- the same, if it was tried
  abbrev pub MayListen : ℕ → W → Option (Result (Incoming × ℕ) ErrorKind) → W → Type 0
  MayListen port before None after = after ≡ before
  MayListen port before (Some heard) after = Listens port before heard after

module _ {W File Tables Incoming Reader Writer : Type 0} (store : store.Ghosts Tables)
    (world : Ghosts W File (Held Tables) Incoming Reader Writer) (book : Incoming → Option Book) where
  -- An open office was served at this port of the loopback interface. `said` has the lines of the connections' faults.
  pub record ServesOpen (port connections : ℕ) (nonces held holds : Option (List ℕ)) (said : List ℕ) (before after : W)
      (conn last : Held Tables) (result : Result ℕ JobFault) : Type 0 where
    pub heard : Result (Incoming × ℕ) ErrorKind
    pub listened : Listens world port before heard after
    pub serves : ServesOffice connections nonces (heard_of book (Some heard)) said (state store conn)
        (state store last) held holds result

  -- The office was opened, and then served like that. Nobody listened before it was open.
  pub record ServesAt (port connections : ℕ) (nonces held holds : Option (List ℕ)) (said : List ℕ) (before after : W)
      (conn last : Held Tables) (result : Result ℕ JobFault) : Type 0 where
    pub heard : Option (Result (Incoming × ℕ) ErrorKind)
    pub listened : MayListen world port before heard after
    pub serves : ServesOffice connections nonces (heard_of book heard) said (state store conn) (state store last) held
        holds result

-- ---- jobs

-- The world is `w` before and `w'` after, and `book` is a listener's record of its connections.
module _ {W File Tables Incoming Reader Writer : Type 0} (store : store.Ghosts Tables)
    (world : Ghosts W File (Held Tables) Incoming Reader Writer) (book : Incoming → Option Book) (w w' : W) where
  -- This was done over the connection, and then the connection was closed. A fault of either is the result. Whatever a
  -- crash makes of the files, this is a run of the program that was asked this, and it continues each lifetime that has
  -- left the files as they were opened: everything in that lifetime is as specified.
  pub record RunsOver {A : Type 0} (Did : W → W → Held Tables → Held Tables → Result A JobFault → Type 0)
      (Asks : (before after : W) (conn last : Held Tables) (r : Result A JobFault) → Did before after conn last r
      → Asked → Type 0)
      (opened : W) (conn : Held Tables) (result : Result A JobFault) : Type 0 where
    pub outcome : Result A JobFault
    pub last : Held Tables
    pub between : W
    pub did : Did opened between conn last outcome
    pub honest : StaysClean store conn last
    pub closing : Result (Unit {0}) EndFault
    pub is_closed : world.closes between last closing w'
    pub keeps : closing ≡ Ok tt → world.is_clean w' last → KeepsOffice world.image (world.leaves w' last)
    pub runs : (end : End) → IsEnd closing end → world.is_clean w' last
        → RunsOn (Asks opened between conn last outcome did) world.image end (world.leaves w' last)
    pub came : result ≡ closed outcome closing

  -- The database was opened once, like this, and this was done over the connection. Or it wasn't, and nothing was
  -- done: no response was given, and if the files stay as they were, no lifetime of theirs ends with this run.
  pub record RunsIn {A : Type 0} (Opens : W → Result (Held Tables) JobFault → W → Type 0)
      (Did : W → W → Held Tables → Held Tables → Result A JobFault → Type 0)
      (Asks : (before after : W) (conn last : Held Tables) (r : Result A JobFault) → Did before after conn last r
      → Asked → Type 0)
      (AsksUnopened : Result A JobFault → Asked → Type 0) (Nothing : Type 0) (result : Result A JobFault)
      : Type 0 where
    pub found : Result (Held Tables) JobFault
    pub opened : W
    pub is_opened : Opens w found opened
    pub ran : Follows (RunsOver Did Asks opened) ((w' ≡ opened) × Nothing) found result
    pub unopened : (e : JobFault) → found ≡ Err e → IdlesOn (AsksUnopened (Err e)) world.image

  -- This was done between the tables, and nothing else was asked of the world. Other databases than those that are
  -- wanted are refused, whatever the disk has returned.
  abbrev pub Quietly : (Wants : Held Tables → Held Tables → Result (Unit {0}) JobFault → Type 0)
      → (Did : State → State → Result (Unit {0}) JobFault → Type 0) → W → W → Held Tables → Held Tables
      → Result (Unit {0}) JobFault → Type 0
  Quietly Wants Did before after conn last result =
      (after ≡ before) × On store Did conn last result × Wants conn last result

  -- The same, and after the database was closed, the job's message is printed.
  pub record DoesIn (Opens : W → Result (Held Tables) JobFault → W → Type 0)
      (Wants : Held Tables → Held Tables → Result (Unit {0}) JobFault → Type 0)
      (Did : State → State → Option (List ℕ) → Option (List ℕ) → Result (Unit {0}) JobFault → Type 0)
      (Asks : Option (List ℕ) → Option (List ℕ) → Result (Unit {0}) JobFault → Asked → Type 0)
      (told : List ℕ) (held holds : Option (List ℕ)) (result : Result (Unit {0}) JobFault) : Type 0 where
    pub between : Option (List ℕ)
    pub done : Result (Unit {0}) JobFault
    pub ran : RunsIn Opens (Quietly Wants (λ old new. Did old new held between)) (λ _ _ _ _ r _.
        Asks held between r) (λ r. Asks held between r) (between ≡ held) done
    pub told_of : Follows (λ _. PrintsText told between holds) (holds ≡ between) done result

  -- The exchanges of the file were applied. Or it has none, and then nothing was looked up or opened, and nothing is
  -- printed.
  pub record AppliesIn (db : List ℕ) (file held holds : Option (List ℕ)) (result : Result (Unit {0}) JobFault)
      : Type 0 where
    pub exchanges : Result (List Exchange) JobFault
    pub are_of : AreOf file exchanges
    pub applied : Follows (λ es. DoesIn (OpensThere world db) (WantsOffice store) (AppliesAll es) (AsksExchanges es) []
        held holds)
        ((w' ≡ w) × (holds ≡ held)) exchanges result

  -- The office with the key of the file was made, and this is reported. Or there is no initial configuration, and then
  -- nothing was made or opened, and nothing is printed.
  pub record FoundsIn (db : List ℕ) (due : List ℕ → Result Opening OpeningFault) (file held holds : Option (List ℕ))
      (result : Result (Unit {0}) JobFault) : Type 0 where
    pub opening : Result Opening JobFault
    pub begins : GivesOpening file due opening
    pub made : Follows
        (λ o. DoesIn (OpensNew world db) (WantsNone store) (λ old new from to r. MakesOffice o old new r × (to ≡ from))
        (λ from to r asked. asked ≡ founding_asked o) (ready_text o) held holds)
        ((w' ≡ w) × (holds ≡ held)) opening result

  -- The office was served, with nonces from this source. Or it wasn't opened, and nothing is printed. `said` has the
  -- lines of the connections' faults.
  abbrev pub ServesIn : (db : List ℕ) → (port connections : ℕ) → (nonces held holds : Option (List ℕ))
      → (said : List ℕ) → Result ℕ JobFault → Type 0
  ServesIn db port connections nonces held holds said result =
      RunsIn (OpensThere world db)
      (λ before after conn last r. ServesAt store world book port connections nonces held holds said before after conn
      last r × WantsOffice store conn last r)
      (λ _ _ _ _ r did. AsksServing connections nonces (heard_of book did.0.heard) r)
      (λ r. AsksServing connections nonces None r)
      ((holds ≡ held) × (said ≡ [])) result

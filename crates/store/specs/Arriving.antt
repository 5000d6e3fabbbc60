-- One more received request, in one transaction.
use Rattle.std.specs.Prelude.{◌≡◌, ◌⊎◌, ◌<◌, false, nat_lt, Bool, List, [], ◌∷◌, ◌++◌, find, IfErr, IfOk, IsOkAnd}
use Rattle.std.specs.Prelude.{Option, Some, None, Result, Ok, Err, IsTrue}
use Rattle.std.specs.List.{list_any}
use Rattle.sqlite.specs.Effect.{Database}
use Rattle.sqlite_trees.specs.declared.store.Store.{Ghosts}
use Rattle.sqlite.specs.Held.{Held, state as state_of}
use Rattle.sqlite.specs.State.{State as Connection, HasCleanDisk, Survives}
use Rattle.message.specs.declared.kinds.Message.{Message}
use Rattle.store_sql.specs.declared.table_fault.Fault.{Fault}
use Rattle.store_sql.specs.declared.table_fault.Fault.TheVariants.{Damaged, Device, NoMemory}
use Rattle.store_sql.specs.Calls.{Stays}
use Rattle.store_sql.specs.Contents.{Contents, Means}
use Rattle.store_sql.specs.Cells.{cert_cells, request_cells}
use Rattle.store_sql.specs.Refusals.{IsFull, IsTooLong, RefusesDepartment, RefusesSignature}
use Rattle.office.specs.declared.opening.Opening.{Opening}
use Rattle.office.specs.declared.arrival.Arrival.{Arrival}
use Rattle.office.specs.declared.arrival.Kept.{Kept}
use Rattle.office.specs.declared.arrival.Outcome.{Outcome}
use Rattle.office.specs.declared.arrival.Outcome.TheVariants as outcome
use Rattle.office.specs.declared.ca.Ca.{Ca}
use Rattle.office.specs.declared.view.Stop.{Stop}
use Rattle.office.specs.declared.view.Stop.TheVariants as stop
use Rattle.office.specs.declared.view.Stop.TheVariants.{Refused}
use Rattle.office.specs.declared.view.Change.{Change}
use Rattle.office.specs.declared.view.Change.TheVariants as change
use Rattle.office.specs.declared.view.Decision.{Decision}
use Rattle.office.specs.Decided.{HasRoom, written}
use Rattle.office.specs.Messages.{message_with_text}
use Rattle.office.specs.Registers.{IsShortIfAccepted, UnlessAccepted}
use Rattle.office.specs.State.{State, next_serial}
use Rattle.office.specs.History.{change as change_by, due, first_accepted, has_key, judged, kept_by, reply_kept, state}
use Rattle.store.specs.Rows.{cert_row, department_row, office_contents, request_row}
use Rattle.store.specs.Transactions.{Answers, FailsFor, IsAsBefore, StopsFor, Waits}
use Rattle.store.specs.declared.reads.concerning.Concerned.{Concerned}
use Rattle.store.specs.Concerning.{AreConcerned}
use Rattle.store.specs.Histories.{is_kept_for}
use Rattle.store.specs.Due.{kept_of}
use Rattle.store.specs.Meaning.{DiskFailed, IsHistory, Tells}

-- ---- an office after a history

-- an initial configuration, and the requests received since
abbrev pub Past : Type 0
Past = Opening × List Arrival

abbrev pub state_at : Past → State
state_at p = state p.0 p.1

abbrev pub kept_at : Past → List Kept
kept_at p = kept_by (first_accepted p.0 p.1)

-- the tables hold the rows of the office after this history, of which this is known
pub record IsAfter (Known : Past → Type 0) (p : Past) (db : Database) : Type 0 where
  pub history : IsHistory p.0 p.1
  pub means : Means db (office_contents p.0 p.1)
  pub known : Known p

-- nothing more is known of it
abbrev pub IsAny : Past → Type 0
IsAny p = Unit {0}

-- ---- a received request

-- the answer is the specified one, and the history may continue with the request
pub record IsDueAnswer (a : Arrival) (p : Past) (outcome : Outcome) : Type 0 where
  pub due : outcome ≡ due p.0 p.1 a
  pub history : IsHistory p.0 (p.1 ++ a ∷ [])

-- the rows of the office after the request
abbrev pub contents_with : Arrival → Past → Contents
contents_with a p = office_contents p.0 (p.1 ++ a ∷ [])

-- For such tables, inside a transaction: the answer is the specified one, and the tables hold the rows of the office
-- after the request; or, with an error, nothing is committed.
abbrev pub Settles : Arrival → (Past → Type 0) → Connection → Connection → Result Outcome Fault → Type 0
Settles a Known old new r = Answers (IsAfter Known) (IsDueAnswer a) (contents_with a) old new r

-- the answer to a message that isn't accepted now
abbrev pub stopped : Stop → Result Outcome Fault
stopped (Refused r) = Ok (outcome.Refused r)
stopped stop.NoMemory = Err NoMemory

-- ---- what is known of the history, step by step

-- the stored request with the same caller and request ID
abbrev pub IsFound : Arrival → Option Kept → Past → Type 0
IsFound a found p = found ≡ find (is_kept_for a.caller a.key) (kept_at p)

-- the request is no repeat, and this says whether its request ID was used before
pub record IsAsked (a : Arrival) (is_known : Bool) (p : Past) : Type 0 where
  pub new : reply_kept (kept_at p) a ≡ None
  pub known : list_any (has_key a) (kept_at p) ≡ is_known

-- its message is this, it comes in time, and its request ID is new
pub record IsNew (a : Arrival) (m : Message) (p : Past) : Type 0 where
  pub new : reply_kept (kept_at p) a ≡ None
  pub message : message_with_text a.bytes ≡ Some m
  pub in_time : nat_lt 253402300799 a.moment ≡ false
  pub unknown : list_any (has_key a) (kept_at p) ≡ false

-- and these are the rows that the message concerns
pub record IsWeighed (a : Arrival) (m : Message) (found : Concerned) (p : Past) : Type 0 where
  pub new : IsNew a m p
  pub rows : AreConcerned found (state_at p) m

-- it is a first acceptance, with this decision, under these CAs
pub record IsAccepted (a : Arrival) (d : Decision) (serving : List Ca) (p : Past) : Type 0 where
  pub new : reply_kept (kept_at p) a ≡ None
  pub judged : IsOkAnd (judged (state_at p) (kept_at p) a)
      (λ f. (f.arrival ≡ a) × (f.reply ≡ d.reply) × (written d (state_at p) ≡ change_by (state_at p) f))
  pub room : HasRoom d.change (state_at p)
  pub next : d.next ≡ next_serial (written d (state_at p))
  pub cas : serving ≡ (state_at p).cas
  pub version : d.version < 9223372036854775807

-- this holds unless the version is above the last one
abbrev pub IsDecided : Arrival → Decision → List Ca → Past → Type 0
IsDecided a d serving p = d.version < 9223372036854775807 → IsAccepted a d serving p

-- ---- why it fails

-- A row of the change is too long, or there is no room for one more. Rows of runs, key IDs and CAs are always short
-- enough, and every row that is inserted has an unused number and key.
abbrev pub IsTooMuchToChange : Change → Contents → Type 0
IsTooMuchToChange change.Nothing c = ⊥
IsTooMuchToChange (change.Department d) c = RefusesDepartment (department_row d) c
IsTooMuchToChange (change.Certificate cert) c = IsTooLong (cert_cells (cert_row cert))
IsTooMuchToChange (change.Signature serial signature) c = RefusesSignature serial signature.bytes c
IsTooMuchToChange (change.Range r) c = ⊥
IsTooMuchToChange (change.KeyId key_id) c = IsFull c.revoked
IsTooMuchToChange (change.Ca ca) c = ⊥

-- the same for the row of the request, or for the change
abbrev pub IsTooMuch : Decision → Arrival → Contents → Type 0
IsTooMuch d a c =
    (IsTooLong (request_cells (request_row (kept_of a d.reply))) ⊎ IsFull c.requests) ⊎ IsTooMuchToChange d.change c

-- the request is a first acceptance, and tables can't hold the rows of its decision
abbrev pub ExceedsTables : Arrival → Past → Type 0
ExceedsTables a p =
    (d : Decision) × (serving : List Ca) × IsAccepted a d serving p × IsTooMuch d a (office_contents p.0 p.1)

-- For any tables: an answer that doesn't accept the request now leaves the database as it was.
abbrev pub KeepsUnaccepted : Connection → Connection → Result Outcome Fault → Type 0
KeepsUnaccepted old new (Ok (outcome.Accepted reply)) = Unit {0}
KeepsUnaccepted old new (Ok other) = new.now ≡ old.now
KeepsUnaccepted old new (Err f) = Unit {0}

-- Everything that a part does with a received request of which this is known, provided that `Given` holds. For such
-- tables the causes of a fault are lack of memory, a failure of the database, or more rows or longer ones than tables
-- can hold.
pub record Settling (Given : Type 0) (a : Arrival) (Known : Past → Type 0) (old new : Connection)
    (r : Result Outcome Fault) : Type 0 where
  pub settles : HasCleanDisk new → Given → Settles a Known old new r
  pub fails : HasCleanDisk new → FailsFor (IsAfter Known) (ExceedsTables a) old new r
  pub stays : HasCleanDisk new → Stays old new r
  pub keeps : HasCleanDisk new → KeepsUnaccepted old new r
  pub short : IfOk r IsShortIfAccepted
  pub survives : Survives old new (Waits (IsAfter Known) old)

-- for a connection
abbrev pub SettlesOn : {S : Type 0} → Ghosts S → Arrival → (Past → Type 0) → Held S → Held S → Result Outcome Fault
    → Type 0
SettlesOn g a Known old new r = Settling (Unit {0}) a Known (state_of g old) (state_of g new) r

-- for a connection, provided that it is open
abbrev pub SettlesOpen : {S : Type 0} → Ghosts S → Arrival → (Past → Type 0) → Held S → Held S → Result Outcome Fault
    → Type 0
SettlesOpen g a Known old new r =
    Settling (IsTrue (state_of g old).is_open) a Known (state_of g old) (state_of g new) r

-- ---- the whole transaction

-- the fault of a statement that reads no rows, so none can be damaged
abbrev pub of_statement : Fault → Fault
of_statement Device = Device
of_statement Damaged = Device
of_statement NoMemory = NoMemory

-- for any tables: unless the request is accepted now, the call has changed nothing
abbrev pub KeepsUnlessAccepted : Connection → Connection → Result Outcome Fault → Type 0
KeepsUnlessAccepted old new r = UnlessAccepted r (IsAsBefore old new)

-- if the request is accepted now, its reply has at most 99 bytes
abbrev pub RepliesShortly : Connection → Connection → Result Outcome Fault → Type 0
RepliesShortly old new r = IfOk r IsShortIfAccepted

-- a fault has its cause, if the connection is closed or its tables represent a history
abbrev pub IsCaused : Arrival → Connection → Connection → Fault → Type 0
IsCaused a old new f = StopsFor (IsAfter IsAny) (ExceedsTables a) old new f

-- the same for a call, if it fails
abbrev pub FailsAsCaused : Arrival → Connection → Connection → Result Outcome Fault → Type 0
FailsAsCaused a old new r = IfErr r (IsCaused a old new)

-- If the disk was faithful and the tables represent a history: the disk failed, now or earlier, or tables can't hold
-- the rows of the decision on the request.
abbrev pub IsStopped : Connection → Connection → Arrival → Type 0
IsStopped old new a =
    HasCleanDisk new → (o : Opening) (l : List Arrival) → Tells old o l → DiskFailed old new ⊎ ExceedsTables a (o, l)

-- When the rules of the tables refuse rows that have to be written.
use Rattle.std.specs.Prelude.{◌⊎◌, ℕ, ◌+◌, List, length}
use Rattle.message.specs.declared.serial_range.SerialRange.{SerialRange}
use Rattle.office.specs.declared.arrival.Arrival.{Arrival}
use Rattle.office.specs.declared.ca.Ca.{Ca}
use Rattle.office.specs.declared.view.Change.{Change}
use Rattle.office.specs.declared.view.Change.TheVariants as change
use Rattle.office.specs.declared.view.Decision.{Decision}
use Rattle.store_sql.specs.declared.offices.Counters.{Counters}
use Rattle.store_sql.specs.declared.requests.RequestRow.{RequestRow}
use Rattle.store_sql.specs.Cells.{key_id_cells}
use Rattle.store_sql.specs.Contents.{Contents}
use Rattle.store_sql.specs.Changes.{with_counters, with_request}
use Rattle.store_sql.specs.Runs.{without_runs}
use Rattle.store_sql.specs.Refusals.{IsFull, IsTooLong, RefusesCa, RefusesCert, RefusesCounters}
use Rattle.store_sql.specs.Refusals.{RefusesDepartment, RefusesRequest, RefusesRun, RefusesSignature}
use Rattle.store.specs.Rows.{ca_row, cert_row, department_row, request_row}
use Rattle.store.specs.Due.{counters_of, kept_of}
use Rattle.store.specs.Ranges.{joined_run}
use Rattle.store_sql.specs.declared.runs.RunRow.{RunRow}

-- once the runs that begin within this run are deleted, it is refused
abbrev pub RefusesJoined : RunRow → Contents → Type 0
RefusesJoined run c = RefusesRun run (without_runs run c)

-- the same for the range, merged with the runs that touch or overlap it
abbrev pub RefusesRange : SerialRange → Contents → Type 0
RefusesRange r c = RefusesJoined (joined_run r c) c

-- the change is refused, in which a CA gets this number and first serial; a key ID is never refused because it exists
abbrev pub RefusesChange : (number since : ℕ) → Change → Contents → Type 0
RefusesChange number since change.Nothing c = ⊥
RefusesChange number since (change.Department d) c = RefusesDepartment (department_row d) c
RefusesChange number since (change.Certificate cert) c = RefusesCert (cert_row cert) c
RefusesChange number since (change.Signature serial signature) c = RefusesSignature serial signature.bytes c
RefusesChange number since (change.Range r) c = RefusesRange r c
RefusesChange number since (change.KeyId key_id) c = IsTooLong (key_id_cells key_id) ⊎ IsFull c.revoked
RefusesChange number since (change.Ca ca) c = RefusesCa (ca_row number since ca) c

-- the counters are refused, or after them the row of the request
abbrev pub RefusesRecord : Counters → RequestRow → Contents → Type 0
RefusesRecord k row c = RefusesCounters k c ⊎ RefusesRequest row (with_counters k c)

-- these are refused, or after them the change
abbrev pub RefusesRows : (number : ℕ) → Change → Counters → RequestRow → Contents → Type 0
RefusesRows number change k row c =
    RefusesRecord k row c ⊎ RefusesChange number k.next change (with_request row (with_counters k c))

-- the rows of the decision on the request are refused, given that these are the existing CAs
abbrev pub RefusesDecision : Decision → Arrival → List Ca → Contents → Type 0
RefusesDecision d a cas c = RefusesRows (length cas + 1) d.change (counters_of d) (request_row (kept_of a d.reply)) c

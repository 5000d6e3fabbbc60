-- When the tables refuse a write.
use Rattle.std.specs.Prelude.{◌≡◌, ◌⊎◌, ◌<◌, ◌≤◌, ◌+◌, ◌^◌, ℕ, List, length, sum_by, IfErr, Result}
use Rattle.sqlite.specs.Order.{Row}
use Rattle.sqlite.specs.State.{State}
use Rattle.sqlite_value.specs.Order.{bytes}
use Rattle.sqlite_rules.specs.Lists.{Has}
use Rattle.store_sql.specs.declared.cas.CaRow.{CaRow}
use Rattle.store_sql.specs.declared.certs.CertRow.{CertRow}
use Rattle.store_sql.specs.declared.departments.DepartmentRow.{DepartmentRow}
use Rattle.store_sql.specs.declared.offices.Counters.{Counters}
use Rattle.store_sql.specs.declared.offices.OfficeRow.{OfficeRow}
use Rattle.store_sql.specs.declared.requests.RequestRow.{RequestRow}
use Rattle.store_sql.specs.declared.runs.RunRow.{RunRow}
use Rattle.store_sql.specs.declared.table_fault.Fault.{Fault}
use Rattle.store_sql.specs.declared.table_fault.Fault.TheVariants.{Device, Damaged, NoMemory}
use Rattle.store_sql.specs.Cells.{ca_cells, cert_cells, department_cells, key_id_cells, office_cells, request_cells}
use Rattle.store_sql.specs.Changes.{counted, renumbered, signed_row}
use Rattle.store_sql.specs.Contents.{Contents, Means}
use Rattle.store_sql.specs.Faults.{HasFailed}

-- ---- limits of a table

-- A row of these values is over a billion bytes long; each value counts as its text or bytes and 18 more, and the row
-- number counts as 18.
abbrev pub IsTooLong : Row → Type 0
IsTooLong values = 10 ^ 9 < 18 + sum_by (λ v. 18 + length (bytes v)) values

-- no row number is left for one more row
abbrev pub IsFull : {X : Type 0} → List X → Type 0
IsFull xs = 2 ^ 63 ≤ length xs + 1

-- `P` holds of one of these
abbrev pub HasOne : {X : Type 0} → (X → Type 0) → List X → Type 0
HasOne {X} P xs = (x : X) × Has xs x × P x

-- ---- given these contents

-- its number is taken, or it is too long
abbrev pub RefusesOffice : OfficeRow → Contents → Type 0
RefusesOffice o c = HasOne (λ p. p.id ≡ o.id) c.offices ⊎ IsTooLong (office_cells o)

-- it is too long, or there is no room for one more
abbrev pub RefusesDepartment : DepartmentRow → Contents → Type 0
RefusesDepartment d c = IsTooLong (department_cells d) ⊎ IsFull c.departments

-- its serial is taken, or its department is missing, or it is too long
abbrev pub RefusesCert : CertRow → Contents → Type 0
RefusesCert cert c =
    HasOne (λ d. d.serial ≡ cert.serial) c.certs
    ⊎ ((HasOne (λ d. d.name ≡ cert.department) c.departments → ⊥) ⊎ IsTooLong (cert_cells cert))

-- the certificate with this serial is too long with the signature
abbrev pub RefusesSignature : (serial : ℕ) → (signature : List ℕ) → Contents → Type 0
RefusesSignature serial signature c =
    HasOne (λ d. (d.serial ≡ serial) × IsTooLong (cert_cells (signed_row signature d))) c.certs

-- its caller has used its request ID, or it is too long, or there is no room for one more
abbrev pub RefusesRequest : RequestRow → Contents → Type 0
RefusesRequest r c =
    HasOne (λ k. (k.caller ≡ r.caller) × (k.key ≡ r.key)) c.requests ⊎ (IsTooLong (request_cells r) ⊎ IsFull c.requests)

-- another run has its first serial
abbrev pub RefusesRun : RunRow → Contents → Type 0
RefusesRun r c = HasOne (λ k. k.lo ≡ r.lo) c.runs

-- it is there already, or it is too long, or there is no room for one more
abbrev pub RefusesKeyId : List ℕ → Contents → Type 0
RefusesKeyId key_id c = HasOne (λ k. k ≡ key_id) c.revoked ⊎ (IsTooLong (key_id_cells key_id) ⊎ IsFull c.revoked)

-- the office's row is too long with these counters
abbrev pub RefusesCounters : Counters → Contents → Type 0
RefusesCounters k c = HasOne (λ o. (o.id ≡ 1) × IsTooLong (office_cells (counted k o))) c.offices

-- its number or its key is taken, or it is too long
abbrev pub RefusesCa : CaRow → Contents → Type 0
RefusesCa a c = HasOne (λ d. (d.number ≡ a.number) ⊎ (d.ca ≡ a.ca)) c.cas ⊎ IsTooLong (ca_cells a)

-- the office's row is too long with this schema number
abbrev pub RefusesNumber : ℕ → Contents → Type 0
RefusesNumber n c = HasOne (λ o. (o.id ≡ 1) × IsTooLong (office_cells (renumbered n o))) c.offices

-- ---- causes

-- a fault is lack of memory, or a failure of the database, or this refusal
abbrev pub HasCauseOr : Type 0 → State → State → Fault → Type 0
HasCauseOr refused old new NoMemory = Unit {0}
HasCauseOr refused old new Device = HasFailed old new ⊎ refused
HasCauseOr refused old new Damaged = ⊥

-- on tables with contents, a fault is lack of memory, or a failure of the database, or a refusal by these contents
abbrev pub RefusedFor : {X : Type 0} → (Contents → Type 0) → State → State → Result X Fault → Type 0
RefusedFor Refuses old new r = IfErr r (λ f. (c : Contents) → Means old.now c → HasCauseOr (Refuses c) old new f)

-- The effect of each write on the contents.
use Rattle.std.specs.Prelude.{ℕ, Bool, not, cond, ◌&&◌, ◌==◌, nat_le, List, ◌∷◌, map, filter, Some, bytes_eq}
use Rattle.store_sql.specs.declared.offices.OfficeRow.{OfficeRow}
use Rattle.store_sql.specs.declared.offices.Counters.{Counters}
use Rattle.store_sql.specs.declared.departments.DepartmentRow.{DepartmentRow}
use Rattle.store_sql.specs.declared.certs.CertRow.{CertRow}
use Rattle.store_sql.specs.declared.requests.RequestRow.{RequestRow}
use Rattle.store_sql.specs.declared.runs.RunRow.{RunRow}
use Rattle.store_sql.specs.declared.cas.CaRow.{CaRow}
use Rattle.store_sql.specs.Contents.{Contents}

-- ---- the office

abbrev pub with_office : OfficeRow → Contents → Contents
with_office o c = record c { offices = o ∷ c.offices }

abbrev pub counted : Counters → OfficeRow → OfficeRow
counted k o = record o { next = k.next; version = k.version; date = k.date }

abbrev pub is_first : OfficeRow → Bool
is_first o = o.id == 1

abbrev pub with_counters : Counters → Contents → Contents
with_counters k c = record c { offices = map (λ o. cond (is_first o) (counted k o) o) c.offices }

abbrev pub renumbered : ℕ → OfficeRow → OfficeRow
renumbered n o = record o { schema = n }

abbrev pub with_schema : ℕ → Contents → Contents
with_schema n c = record c { offices = map (λ o. cond (is_first o) (renumbered n o) o) c.offices }

-- ---- departments

abbrev pub has_name : List ℕ → DepartmentRow → Bool
has_name name d = bytes_eq d.name name

abbrev pub departments_named : List ℕ → Contents → List DepartmentRow
departments_named name c = filter (has_name name) c.departments

-- it is inserted, or replaces the one with its name
abbrev pub with_department_row : DepartmentRow → Contents → Contents
with_department_row d c = record c { departments = d ∷ filter (λ e. not (has_name d.name e)) c.departments }

-- ---- certificates

abbrev pub has_serial : ℕ → CertRow → Bool
has_serial serial c = c.serial == serial

abbrev pub certs_numbered : ℕ → Contents → List CertRow
certs_numbered serial c = filter (has_serial serial) c.certs

-- its serial is between the two, both included
abbrev pub is_cert_within : (lo hi : ℕ) → CertRow → Bool
is_cert_within lo hi c = nat_le lo c.serial && nat_le c.serial hi

abbrev pub certs_within : (lo hi : ℕ) → Contents → List CertRow
certs_within lo hi c = filter (is_cert_within lo hi) c.certs

abbrev pub with_cert : CertRow → Contents → Contents
with_cert cert c = record c { certs = cert ∷ c.certs }

abbrev pub signed_row : List ℕ → CertRow → CertRow
signed_row signature c = record c { signature = Some signature }

abbrev pub with_cert_signature : ℕ → List ℕ → Contents → Contents
with_cert_signature serial signature c = record c
    { certs = map (λ cert. cond (has_serial serial cert) (signed_row signature cert) cert) c.certs }

-- ---- requests

abbrev pub is_request_for : List ℕ → List ℕ → RequestRow → Bool
is_request_for caller key r = bytes_eq r.caller caller && bytes_eq r.key key

abbrev pub requests_for : List ℕ → List ℕ → Contents → List RequestRow
requests_for caller key c = filter (is_request_for caller key) c.requests

abbrev pub with_request : RequestRow → Contents → Contents
with_request r c = record c { requests = r ∷ c.requests }

-- ---- runs of revoked serials

abbrev pub with_run : RunRow → Contents → Contents
with_run r c = record c { runs = r ∷ c.runs }

-- ---- revoked key IDs

abbrev pub is_same_key_id : List ℕ → List ℕ → Bool
is_same_key_id key_id k = bytes_eq k key_id

abbrev pub revoked_as : List ℕ → Contents → List (List ℕ)
revoked_as key_id c = filter (is_same_key_id key_id) c.revoked

abbrev pub with_revoked : List ℕ → Contents → Contents
with_revoked key_id c = record c { revoked = key_id ∷ c.revoked }

-- ---- CAs

abbrev pub with_ca_row : CaRow → Contents → Contents
with_ca_row a c = record c { cas = a ∷ c.cas }

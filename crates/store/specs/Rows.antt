-- The rows of an office: those of its state and of its stored requests.
use Rattle.std.specs.Prelude.{ℕ, suc, List, [], ◌∷◌, length, map}
use Rattle.std.specs.List.{join_with_byte}
use Rattle.std.specs.Option.{option_map}
use Rattle.lines.specs.Keys.{key_blob}
use Rattle.lines.specs.Signers.{list_text}
use Rattle.krl.specs.declared.run.Run.{Run}
use Rattle.krl.specs.Sets.{runs_in}
use Rattle.message.specs.declared.department.Department.{Department}
use Rattle.message.specs.Texts.{demand_line, key_types_lines}
use Rattle.office.specs.declared.opening.Opening.{Opening}
use Rattle.office.specs.declared.ca.Ca.{Ca}
use Rattle.office.specs.declared.certificate.Certificate.{Certificate}
use Rattle.office.specs.declared.arrival.Arrival.{Arrival}
use Rattle.office.specs.declared.arrival.Kept.{Kept}
use Rattle.office.specs.State.{State, next_serial}
use Rattle.office.specs.History.{first_accepted, kept_by, state}
use Rattle.store_sql.specs.declared.offices.OfficeRow.{OfficeRow}
use Rattle.store_sql.specs.declared.departments.DepartmentRow.{DepartmentRow}
use Rattle.store_sql.specs.declared.certs.CertRow.{CertRow}
use Rattle.store_sql.specs.declared.requests.RequestRow.{RequestRow}
use Rattle.store_sql.specs.declared.runs.RunRow.{RunRow}
use Rattle.store_sql.specs.declared.cas.CaRow.{CaRow}
use Rattle.store_sql.specs.Contents.{Contents}
use Rattle.cert.specs.Bodies.{kind_number}

-- the one row of the office, in schema 2
abbrev pub office_row : State → OfficeRow
office_row s = record {
  id = 1;
  schema = 2;
  ca = key_blob s.opening.ca;
  root = s.opening.root;
  station = s.opening.station;
  first = s.opening.first;
  last = s.opening.last;
  next = next_serial s;
  version = s.version;
  date = s.date;
}

-- the options are followed by the lines of those that certificates must have, the extensions by the line of key types,
-- each after a line feed
abbrev pub department_row : Department → DepartmentRow
department_row d = record {
  name = d.name;
  kind = kind_number d.kind;
  admins = list_text d.administrators;
  rules = list_text d.rules;
  options = join_with_byte 10 (list_text d.options ∷ map demand_line d.demands);
  extensions = join_with_byte 10 (list_text d.extensions ∷ key_types_lines d.key_types);
  max_life = d.longest_life;
  namespaces = list_text d.namespaces;
}

abbrev pub cert_row : Certificate → CertRow
cert_row c = record {
  serial = c.fields.serial;
  department = c.department;
  key_id = c.fields.key_id;
  body = c.body;
  signature = option_map (λ s. s.bytes) c.signature;
}

abbrev pub request_row : Kept → RequestRow
request_row k = record { caller = k.caller; key = k.key; message = k.bytes; reply = k.reply }

abbrev pub run_row : Run → RunRow
run_row r = record { lo = r.lo; hi = r.hi }

abbrev pub ca_row : (number since : ℕ) → Ca → CaRow
ca_row number since ca = record { number = number; ca = key_blob ca.key; since = since }

-- the rows of CAs, numbered from this number on
abbrev pub ca_rows : ℕ → List Ca → List CaRow
ca_rows number [] = []
ca_rows number (ca ∷ cas) = ca_row number ca.since ca ∷ ca_rows (suc number) cas

-- the maximal runs of the revoked serials
abbrev pub revoked_runs : State → List Run
revoked_runs s = runs_in s.revoked s.opening.first (length s.certificates)

-- all rows of a state and of its stored requests
abbrev pub contents_of : State → List Kept → Contents
contents_of s kept = record {
  offices = office_row s ∷ [];
  departments = map (λ e. department_row e.1) s.departments;
  certs = map cert_row s.certificates;
  requests = map request_row kept;
  runs = map run_row (revoked_runs s);
  revoked = s.revoked_key_ids;
  cas = ca_rows 1 s.cas;
}

-- all rows of the office with a configuration after a history
abbrev pub office_contents : Opening → List Arrival → Contents
office_contents o l = contents_of (state o l) (kept_by (first_accepted o l))

-- The columns of each table's rows.
use Rattle.std.specs.Prelude.{◌≡◌, refl, true, None, Some, ℕ, pos, List, [], ◌∷◌}
use Rattle.store_sql.specs.declared.kind.Kind.{Kind}
use Rattle.store_sql.specs.declared.kind.Kind.TheVariants as kind
use Rattle.store_sql.specs.Kinds.{has_kinds}
use Rattle.sqlite.specs.Order.{Row}
use Rattle.sqlite.specs.Values.{or_null}
use Rattle.sqlite.specs.declared.types.Value.TheVariants.{Int, Text, Blob}
use Rattle.store_sql.specs.declared.offices.OfficeRow.{OfficeRow}
use Rattle.store_sql.specs.declared.offices.Counters.{Counters}
use Rattle.store_sql.specs.declared.departments.DepartmentRow.{DepartmentRow}
use Rattle.store_sql.specs.declared.certs.CertRow.{CertRow}
use Rattle.store_sql.specs.declared.requests.RequestRow.{RequestRow}
use Rattle.store_sql.specs.declared.runs.RunRow.{RunRow}
use Rattle.store_sql.specs.declared.cas.CaRow.{CaRow}

abbrev pub office_cells : OfficeRow → Row
office_cells o =
    Int (pos o.id) ∷ Int (pos o.schema) ∷ Blob o.ca ∷ Text o.root ∷ Text o.station ∷ Int (pos o.first)
    ∷ Int (pos o.last)
    ∷ Int (pos o.next) ∷ Int (pos o.version) ∷ Int (pos o.date) ∷ []

-- the counters, as parameters of the statement that updates them
abbrev pub counter_cells : Counters → Row
counter_cells k = Int (pos k.next) ∷ Int (pos k.version) ∷ Int (pos k.date) ∷ []

abbrev pub department_cells : DepartmentRow → Row
department_cells d =
    Text d.name ∷ Int (pos d.kind) ∷ Text d.admins ∷ Text d.rules ∷ Text d.options ∷ Text d.extensions
    ∷ Int (pos d.max_life)
    ∷ Text d.namespaces ∷ []

abbrev pub cert_cells : CertRow → Row
cert_cells c = Int (pos c.serial) ∷ Text c.department ∷ Text c.key_id ∷ Blob c.body ∷ or_null Blob c.signature ∷ []

abbrev pub request_cells : RequestRow → Row
request_cells r = Text r.caller ∷ Text r.key ∷ Blob r.message ∷ Text r.reply ∷ []

abbrev pub run_cells : RunRow → Row
run_cells r = Int (pos r.lo) ∷ Int (pos r.hi) ∷ []

-- a revoked key ID
abbrev pub key_id_cells : List ℕ → Row
key_id_cells key_id = Text key_id ∷ []

abbrev pub ca_cells : CaRow → Row
ca_cells c = Int (pos c.number) ∷ Blob c.ca ∷ Int (pos c.since) ∷ []

-- ---- the kinds of those columns

abbrev pub office_kinds : List Kind
office_kinds = kind.Number ∷ kind.Number ∷ kind.Blob ∷ kind.Text ∷ kind.Text ∷ kind.Number ∷ kind.Number ∷ kind.Number
    ∷ kind.Number ∷ kind.Number ∷ []

abbrev pub department_kinds : List Kind
department_kinds = kind.Text ∷ kind.Number ∷ kind.Text ∷ kind.Text ∷ kind.Text ∷ kind.Text ∷ kind.Number ∷ kind.Text
    ∷ []

abbrev pub cert_kinds : List Kind
cert_kinds = kind.Number ∷ kind.Text ∷ kind.Text ∷ kind.Blob ∷ kind.OptionalBlob ∷ []

abbrev pub request_kinds : List Kind
request_kinds = kind.Text ∷ kind.Text ∷ kind.Blob ∷ kind.Text ∷ []

abbrev pub run_kinds : List Kind
run_kinds = kind.Number ∷ kind.Number ∷ []

abbrev pub ca_kinds : List Kind
ca_kinds = kind.Number ∷ kind.Blob ∷ kind.Number ∷ []

abbrev pub key_id_kinds : List Kind
key_id_kinds = kind.Text ∷ []

-- a certificate's row has the kinds of its columns, with a signature or without
pub signed_or_not : (c : CertRow) → has_kinds cert_kinds (cert_cells c) ≡ true
signed_or_not c = elim c.signature as (λ s. has_kinds cert_kinds (cert_cells (record c { signature = s })) ≡ true)
    [ None ↦ refl | Some s ↦ refl ]

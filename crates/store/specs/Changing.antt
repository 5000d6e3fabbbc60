-- The effect of a change on the rows.
use Rattle.std.specs.Prelude.{ℕ, List, if◌then◌else◌}
use Rattle.std.specs.List.{list_any}
use Rattle.office.specs.declared.view.Change.{Change}
use Rattle.office.specs.declared.view.Change.TheVariants as change
use Rattle.store_sql.specs.Contents.{Contents}
use Rattle.store_sql.specs.Changes.{is_same_key_id, with_ca_row, with_cert, with_department_row, with_revoked}
use Rattle.store_sql.specs.Changes.{with_cert_signature}
use Rattle.store.specs.Rows.{ca_row, cert_row, department_row}
use Rattle.store.specs.Ranges.{with_range_rows}

-- the key ID is inserted, unless it is there already
abbrev pub with_key_id_row : List ℕ → Contents → Contents
with_key_id_row key_id c = if list_any (is_same_key_id key_id) c.revoked then c else with_revoked key_id c

-- a new CA gets this number, and serves from this serial on
abbrev pub with_change : (number since : ℕ) → Change → Contents → Contents
with_change number since change.Nothing c = c
with_change number since (change.Department d) c = with_department_row (department_row d) c
with_change number since (change.Certificate cert) c = with_cert (cert_row cert) c
with_change number since (change.Signature serial signature) c = with_cert_signature serial signature.bytes c
with_change number since (change.Range r) c = with_range_rows r c
with_change number since (change.KeyId key_id) c = with_key_id_row key_id c
with_change number since (change.Ca ca) c = with_ca_row (ca_row number since ca) c

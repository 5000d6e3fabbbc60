-- A statement on one table leaves the contents of the others; and structs with the same columns are the same.
use Rattle.store_sql.proofs.Words.{AllByRecursion, AreNumbered, Blob, CaRow, CertRow, Contents, DepartmentRow, Holds}
use Rattle.store_sql.proofs.Words.{List, Lists, None, OfficeRow, Option, RequestRow, Row, RunRow, Some, Trees, ap}
use Rattle.store_sql.proofs.Words.{blob_in, ca_cells, ca_places, cases_eq, cert_cells, cert_places, column}
use Rattle.store_sql.proofs.Words.{department_cells, department_places, inl, inr, key_id_cells, key_id_places}
use Rattle.store_sql.proofs.Words.{number_in, office_cells, office_places, optional_blob_in, or_null, refl}
use Rattle.store_sql.proofs.Words.{request_cells, request_places, run_cells, run_places, sym, text_in, whole, with_tree}
use Rattle.store_sql.proofs.Words.{ℕ, ◌∙◌, ◌≡◌, ◌≢◌}
use Rattle.store_sql.proofs.Reasons.{this_tree, other_tree}

-- the trees of all tables but this one are as they were
abbrev pub Spares : ℕ → Trees → Trees → Type 0
Spares tree db after = AllByRecursion (λ t. t.tree ≢ tree → after t.tree ≡ db t.tree) whole.tables

-- so the trees are the old ones, with the new rows of this table
left_or_new : (tree : ℕ) (db after : Trees) (t : ℕ) → (t ≢ tree → after t ≡ db t)
    → with_tree db tree (after tree) t ≡ after t
left_or_new tree db after t same = elim (cases_eq t tree) [
  | inl is ↦ ap (with_tree db tree (after tree)) is ∙ this_tree db tree (after tree) ∙ ap after (sym is)
  | inr other ↦ other_tree db tree (after tree) t other ∙ sym (same other)
]

-- the contents of the tables, one by one
abbrev Parts : Trees → Contents → Type 0
Parts trees c = Lists office_cells office_places (trees 0) c.offices
    × (Lists department_cells department_places (trees 1) c.departments × AreNumbered (trees 1))
    × Lists cert_cells cert_places (trees 3) c.certs
    × (Lists request_cells request_places (trees 4) c.requests × AreNumbered (trees 4))
    × Lists run_cells run_places (trees 6) c.runs
    × (Lists key_id_cells key_id_places (trees 7) c.revoked × AreNumbered (trees 7))
    × Lists ca_cells ca_places (trees 9) c.cas

apart : (trees : Trees) (c : Contents) → Holds trees c → Parts trees c
apart trees c h = (
  h.offices,
  (h.departments, h.departments_numbered),
  h.certs,
  (h.requests, h.requests_numbered),
  h.runs,
  (h.revoked, h.revoked_numbered),
  h.cas,
)

-- from the old trees with the new rows of one table to the new trees
together : (tree : ℕ) (db after : Trees) (c : Contents) → Spares tree db after
    → Parts (with_tree db tree (after tree)) c → Holds after c
together tree db after c o p = record {
  offices = rw (left_or_new tree db after 0 o.0) at p.0;
  departments = rw (left_or_new tree db after 1 o.1.0) at p.1.0;
  departments_numbered = rw (left_or_new tree db after 1 o.1.0) at p.1.1;
  certs = rw (left_or_new tree db after 3 o.1.1.0) at p.2;
  requests = rw (left_or_new tree db after 4 o.1.1.1.0) at p.3.0;
  requests_numbered = rw (left_or_new tree db after 4 o.1.1.1.0) at p.3.1;
  runs = rw (left_or_new tree db after 6 o.1.1.1.1.0) at p.4;
  revoked = rw (left_or_new tree db after 7 o.1.1.1.1.1.0) at p.5.0;
  revoked_numbered = rw (left_or_new tree db after 7 o.1.1.1.1.1.0) at p.5.1;
  cas = rw (left_or_new tree db after 9 o.1.1.1.1.1.1.0) at p.6;
}

-- the contents of the tables if one has changed
module _ (db after : Trees) (c : Contents) (h : Holds db c) where
  abbrev was : Parts db c
  was = apart db c h

  pub in_office : (xs : List OfficeRow) → Spares 0 db after → Lists office_cells office_places (after 0) xs
      → Holds after (record c { offices = xs })
  in_office xs o now = together 0 db after (record c { offices = xs }) o (now, was.1, was.2, was.3, was.4, was.5, was.6)

  pub in_department : (xs : List DepartmentRow) → Spares 1 db after
      → Lists department_cells department_places (after 1) xs → AreNumbered (after 1)
      → Holds after (record c { departments = xs })
  in_department xs o now ids = together 1 db after (record c { departments = xs }) o
      (was.0, (now, ids), was.2, was.3, was.4, was.5, was.6)

  pub in_cert : (xs : List CertRow) → Spares 3 db after → Lists cert_cells cert_places (after 3) xs
      → Holds after (record c { certs = xs })
  in_cert xs o now = together 3 db after (record c { certs = xs }) o (was.0, was.1, now, was.3, was.4, was.5, was.6)

  pub in_request : (xs : List RequestRow) → Spares 4 db after → Lists request_cells request_places (after 4) xs
      → AreNumbered (after 4) → Holds after (record c { requests = xs })
  in_request xs o now ids = together 4 db after (record c { requests = xs }) o
      (was.0, was.1, was.2, (now, ids), was.4, was.5, was.6)

  pub in_run : (xs : List RunRow) → Spares 6 db after → Lists run_cells run_places (after 6) xs
      → Holds after (record c { runs = xs })
  in_run xs o now = together 6 db after (record c { runs = xs }) o (was.0, was.1, was.2, was.3, now, was.5, was.6)

  pub in_revoked : (xs : List (List ℕ)) → Spares 7 db after → Lists key_id_cells key_id_places (after 7) xs
      → AreNumbered (after 7) → Holds after (record c { revoked = xs })
  in_revoked xs o now ids = together 7 db after (record c { revoked = xs }) o
      (was.0, was.1, was.2, was.3, was.4, (now, ids), was.6)

  pub in_ca : (xs : List CaRow) → Spares 9 db after → Lists ca_cells ca_places (after 9) xs
      → Holds after (record c { cas = xs })
  in_ca xs o now = together 9 db after (record c { cas = xs }) o (was.0, was.1, was.2, was.3, was.4, was.5, now)

-- ---- structs with the same columns are the same

abbrev office_in : Row → OfficeRow
office_in r = record {
  id = number_in (column r 0);
  schema = number_in (column r 1);
  ca = blob_in (column r 2);
  root = text_in (column r 3);
  station = text_in (column r 4);
  first = number_in (column r 5);
  last = number_in (column r 6);
  next = number_in (column r 7);
  version = number_in (column r 8);
  date = number_in (column r 9);
}

pub office_apart : (x y : OfficeRow) → office_cells x ≡ office_cells y → x ≡ y
office_apart x y e = ap office_in e

abbrev department_in : Row → DepartmentRow
department_in r = record {
  name = text_in (column r 0);
  kind = number_in (column r 1);
  admins = text_in (column r 2);
  rules = text_in (column r 3);
  options = text_in (column r 4);
  extensions = text_in (column r 5);
  max_life = number_in (column r 6);
  namespaces = text_in (column r 7);
}

pub department_apart : (x y : DepartmentRow) → department_cells x ≡ department_cells y → x ≡ y
department_apart x y e = ap department_in e

abbrev cert_in : Row → CertRow
cert_in r = record {
  serial = number_in (column r 0);
  department = text_in (column r 1);
  key_id = text_in (column r 2);
  body = blob_in (column r 3);
  signature = optional_blob_in (column r 4);
}

same_blob : (o : Option (List ℕ)) → optional_blob_in (or_null Blob o) ≡ o
same_blob None = refl
same_blob (Some b) = refl

read_cert : (c : CertRow) → cert_in (cert_cells c) ≡ c
read_cert c = ap (λ s. record c { signature = s }) (same_blob c.signature)

pub cert_apart : (x y : CertRow) → cert_cells x ≡ cert_cells y → x ≡ y
cert_apart x y e = sym (read_cert x) ∙ ap cert_in e ∙ read_cert y

abbrev request_in : Row → RequestRow
request_in r = record {
  caller = text_in (column r 0);
  key = text_in (column r 1);
  message = blob_in (column r 2);
  reply = text_in (column r 3);
}

pub request_apart : (x y : RequestRow) → request_cells x ≡ request_cells y → x ≡ y
request_apart x y e = ap request_in e

abbrev run_in : Row → RunRow
run_in r = record { lo = number_in (column r 0); hi = number_in (column r 1) }

pub run_apart : (x y : RunRow) → run_cells x ≡ run_cells y → x ≡ y
run_apart x y e = ap run_in e

abbrev ca_in : Row → CaRow
ca_in r = record { number = number_in (column r 0); ca = blob_in (column r 1); since = number_in (column r 2) }

pub ca_apart : (x y : CaRow) → ca_cells x ≡ ca_cells y → x ≡ y
ca_apart x y e = ap ca_in e

pub key_id_apart : (x y : List ℕ) → key_id_cells x ≡ key_id_cells y → x ≡ y
key_id_apart x y e = ap (λ r. text_in (column r 0)) e

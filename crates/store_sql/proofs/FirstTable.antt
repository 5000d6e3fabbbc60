-- The `office` table is the first of the office's tables.
use Rattle.store_sql.proofs.Words.{Contents, Database, HasOffices, List, Means, Schema, Some, Table, [], ap, list_any}
use Rattle.store_sql.proofs.Words.{placed_office, slice_get, subst, sym, true, ◌∷◌, ◌≡◌}
use Rattle.store_sql.specs.Contents.{MeansWithoutCa}
use Rattle.store_sql.specs.Look.{first_is_office, is_office_table}

-- in schema 2
pub means_offices : (db : Database) (c : Contents) → Means db c → HasOffices c.offices db
means_offices db c means = record {
  first = ap (λ (s : Schema). slice_get s.tables 0) means.schema;
  holds = means.kept.holds.offices;
}

-- and in schema 1
pub former_offices : (db : Database) (c : Contents) → MeansWithoutCa db c → HasOffices c.offices db
former_offices db c means = record {
  first = ap (λ (s : Schema). slice_get s.tables 0) means.schema;
  holds = means.holds.offices;
}

-- the other tables, if it is the first
pub first_is : (ts : List Table) → slice_get ts 0 ≡ Some placed_office → (others : List Table) × (ts ≡ placed_office ∷ others)
first_is [] e = absurd cc
first_is (t ∷ ts) e = (ts, let same : t ≡ placed_office = cc in ap (λ (u : Table). u ∷ ts) same)

-- and thus it is recognized
pub first_seen : (ts : List Table) → slice_get ts 0 ≡ Some placed_office → list_any is_office_table ts ≡ true
first_seen ts e =
    let it = first_is ts e in
    subst (λ (us : List Table). list_any is_office_table us ≡ true) (sym it.1) (first_is_office it.0)

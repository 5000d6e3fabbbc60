-- The table after a statement on it; and structs with equal columns are equal.
use Rattle.rows.proofs.Words.{AllByRecursion, Bool, List, Lists, Row, Trees, ap, arith, blob_in, column, false, joined}
use Rattle.rows.proofs.Words.{number_in, references_fit, refl, same_name, true, ◌≡◌}
use Rattle.list_sql.proofs.Words.{Contents, Holds, ListRow, list_cells, list_places, whole}
use Rattle.std.proofs.Common.{rules}
use Rattle.rows.proofs.Edits.{Spares}
use Rattle.rows.proofs.Reasons.{IsSimple}

-- ---- what the table is

pub simple : IsSimple whole
unfolding same_name joined
simple = record {
  apart = search (rules, arith);
  fit = fits;
  no_works = λ tree olds news. refl;
  none_refer = λ ref. ((λ none. none), tt);
}
  where
    fits : (adds removes : Bool) → AllByRecursion (λ t. references_fit whole t adds removes ≡ true) whole.tables
    fits true true = (refl, tt)
    fits true false = (refl, tt)
    fits false true = (refl, tt)
    fits false false = (refl, tt)

-- the contents after a change of the table
pub in_list : (db after : Trees) (c : Contents) → Holds db c → (xs : List ListRow) → Spares whole 0 db after
    → Lists list_cells list_places (after 0) xs → Holds after (record { lists = xs })
in_list db after c h xs o now = record { lists = now }

-- ---- structs with equal columns are equal

abbrev list_in : Row → ListRow
list_in r = record {
  id = number_in (column r 0);
  schema = number_in (column r 1);
  bytes = blob_in (column r 2);
}

pub list_apart : (x y : ListRow) → list_cells x ≡ list_cells y → x ≡ y
list_apart x y e = ap list_in e

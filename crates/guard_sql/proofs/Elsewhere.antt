-- A statement on one table leaves the rows of the other. Structs with the same columns are the same.
use Rattle.rows.proofs.Words.{AllByRecursion, Bool, List, Lists, Row, Trees, ap, arith, blob_in, column, false, joined}
use Rattle.rows.proofs.Words.{number_in, references_fit, refl, same_name, subst, sym, true, ℕ, ◌≡◌, ◌≢◌}
use Rattle.guard_sql.proofs.Words.{ApprovalRow, Contents, GuardRow, Holds, approval_cells, approval_places, guard_cells}
use Rattle.guard_sql.proofs.Words.{guard_places, whole}
use Rattle.std.proofs.Common.{rules}
use Rattle.rows.proofs.Edits.{Spares}
use Rattle.rows.proofs.Reasons.{IsSimple}

-- ---- what the tables are

pub simple : IsSimple whole
unfolding same_name joined
simple = record {
  apart = search (rules, arith);
  fit = fits;
  no_works = λ tree olds news. refl;
  none_refer = λ ref. ((λ none. none), ((λ none. none), tt));
}
  where
    fits : (adds removes : Bool) → AllByRecursion (λ t. references_fit whole t adds removes ≡ true) whole.tables
    fits true true = (refl, (refl, tt))
    fits true false = (refl, (refl, tt))
    fits false true = (refl, (refl, tt))
    fits false false = (refl, (refl, tt))

-- the contents of the tables after one of them has changed
module _ (db after : Trees) (c : Contents) (h : Holds db c) where
  pub in_guard : (xs : List GuardRow) → Spares whole 0 db after → Lists guard_cells guard_places (after 0) xs
      → Holds after (record c { guards = xs })
  in_guard xs o now = record {
    guards = now;
    approved = subst (λ rows. Lists approval_cells approval_places rows c.approved) (sym (o.1.0 (λ e. cc))) h.approved;
  }

  pub in_approved : (xs : List ApprovalRow) → Spares whole 1 db after
      → Lists approval_cells approval_places (after 1) xs → Holds after (record c { approved = xs })
  in_approved xs o now = record {
    guards = subst (λ rows. Lists guard_cells guard_places rows c.guards) (sym (o.0 (λ e. cc))) h.guards;
    approved = now;
  }

-- ---- structs with the same columns are the same

abbrev guard_in : Row → GuardRow
guard_in r = record {
  id = number_in (column r 0);
  schema = number_in (column r 1);
  ca = blob_in (column r 2);
  first = number_in (column r 3);
  last = number_in (column r 4);
}

pub guard_apart : (x y : GuardRow) → guard_cells x ≡ guard_cells y → x ≡ y
guard_apart x y e = ap guard_in e

abbrev approval_in : Row → ApprovalRow
approval_in r = record {
  serial = number_in (column r 0);
  moment = number_in (column r 1);
  body = blob_in (column r 2);
}

pub approval_apart : (x y : ApprovalRow) → approval_cells x ≡ approval_cells y → x ≡ y
approval_apart x y e = ap approval_in e

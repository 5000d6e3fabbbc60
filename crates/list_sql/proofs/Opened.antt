-- The contents of a new connection.
use Rattle.std.proofs.Common.{◌≡◌, inl, inr, refl, sym, subst}
use Rattle.std.proofs.Math.Logic.{∥∥₁_elim}
use Rattle.sqlite_wal.specs.Recovery.{Image}
use Rattle.sqlite_trees.specs.Tree.{Trees}
use Rattle.sqlite_trees.specs.Props.{Trees-set}
use Rattle.sqlite_catalog.specs.Listing.{IsSound}
use Rattle.sqlite.specs.Effect.{Database}
use Rattle.sqlite.specs.State.{State as Connection, IsLive, Opens}
use Rattle.sqlite.specs.Start.{FindsIn}
use Rattle.sqlite.proofs.ListingLemmas.{empty_is_sound}
use Rattle.store_sql.specs.Calls.{IsBare}
use Rattle.store_sql.specs.Schema.{no_schema}
use Rattle.list_sql.specs.Contents.{Kept, Means}
use Rattle.list_sql.specs.Rows.{list_contents}
use Rattle.list_sql.specs.Schema.{whole}
use Rattle.files.specs.Images.{HoldsNone}
use Rattle.files.proofs.HalfMade.{found_nothing}
use Rattle.files.proofs.OneSchema.{one_schema}
use Rattle.list_sql.specs.Runs.{FoundIsHad, HasWhatIsHeld, IsBlankIfNone}

-- trees with the rows of a list guard have the schema of one
pub found_is_had : (c : Connection) → FoundIsHad c
found_is_had c opens live s kept =
    let schema = one_schema whole c.committed.schema c.committed.trees refl kept.sound (live opens.is_open).1 in
    let means : Means c.committed (list_contents s) = record { schema = schema; kept = kept } in
    record {
      autocommit = opens.autocommit;
      now = subst (λ (d : Database). Means d (list_contents s)) (sym opens.clean) means;
      committed = means;
    }

-- the trees that were found are those that the files hold
pub has_what_is_held : (image : Image) (c : Connection) → Opens c → IsLive c → FindsIn image c → FoundIsHad c
    → HasWhatIsHeld image c
has_what_is_held image c opens live found had s held =
    let same : c.committed.trees ≡ held.trees = ∥∥₁_elim held.holds (Trees-set _ _) (found.holds held.trees) in
    had opens live s (subst (λ (t : Trees). Kept t (list_contents s)) (sym same) held.kept)

-- from files that hold no list guard, no table is read
no_tables : (image : Image) (c : Connection) → FindsIn image c → HoldsNone image → IsSound no_schema c.committed.trees
no_tables image c found (inl nothing) =
    empty_is_sound c.committed.trees (found_nothing image c.committed.trees nothing found.reads).1
no_tables image c found (inr held) =
    let same : c.committed.trees ≡ held.0 = ∥∥₁_elim held.1 (Trees-set _ _) (found.holds held.0) in
    subst (IsSound no_schema) (sym same) held.2

-- so the connection has no table
pub blank_if_none : (image : Image) (c : Connection) → Opens c → IsLive c → FindsIn image c → IsBlankIfNone image c
blank_if_none image c opens live found none =
    let sound = no_tables image c found none in
    let schema = one_schema no_schema c.committed.schema c.committed.trees refl sound (live opens.is_open).1 in
    let bare : IsBare no_schema c.committed = (schema, tt) in
    record {
      autocommit = opens.autocommit;
      now = subst (IsBare no_schema) (sym opens.clean) bare;
      committed = bare;
    }

-- The histories that a newly opened connection represents.
use Rattle.std.proofs.Common.{◌≡◌, None, inl, inr, refl, sym, subst, IsTrue}
use Rattle.std.proofs.Math.Logic.{∥∥₁_elim}
use Rattle.sqlite_wal.specs.Recovery.{Image}
use Rattle.sqlite_trees.specs.Tree.{Trees}
use Rattle.sqlite_trees.specs.Props.{Trees-set}
use Rattle.sqlite_catalog.specs.Listing.{IsSound}
use Rattle.sqlite.specs.Effect.{Database}
use Rattle.sqlite.specs.State.{State, IsLive, Opens}
use Rattle.sqlite.specs.Start.{FindsIn}
use Rattle.sqlite.proofs.ListingLemmas.{empty_is_sound}
use Rattle.store_sql.specs.Contents.{Kept, Means}
use Rattle.store_sql.specs.Calls.{IsBare}
use Rattle.store_sql.specs.Schema.{no_schema, whole, without_ca}
use Rattle.store.specs.Rows.{office_contents}
use Rattle.store.specs.Former.{Had, former_contents}
use Rattle.files.specs.Images.{HoldsNone}
use Rattle.restart.specs.Runs.{FoundIsTold, IsBlankIfNone, TellsFormer, TellsWhatIsHeld}
use Rattle.files.proofs.HalfMade.{found_nothing}
use Rattle.files.proofs.OneSchema.{one_schema}

-- If no transaction is open, a crash leaves the trees that were found, and their schema is that of an office.
pub found_is_told : (s : State) → ((db : Trees) → IsTrue s.is_open → s.may_leave db → db ≡ s.committed.trees)
    → FoundIsTold s
found_is_told s settled opens live unlimited o l history kept =
    let schema = one_schema whole s.committed.schema s.committed.trees refl kept.sound (live opens.is_open).1 in
    let means : Means s.committed (office_contents o l) = record { schema = schema; kept = kept } in
    record {
      history = history;
      unlimited = unlimited;
      rows = λ _. record {
        autocommit = opens.autocommit;
        now = subst (λ (d : Database). Means d (office_contents o l)) (sym opens.clean) means;
        committed = means;
      };
      left = λ trees may.
          inl (subst (λ (t : Trees). Kept t (office_contents o l)) (sym (settled trees opens.is_open may)) kept);
    }

-- the trees that were found are those that the files held
pub tells_what_is_held : (image : Image) (s : State) → Opens s → IsLive s → s.step_limit ≡ None → FindsIn image s
    → FoundIsTold s → TellsWhatIsHeld image s
tells_what_is_held image s opens live unlimited found told o l held =
    let same : s.committed.trees ≡ held.trees = ∥∥₁_elim held.holds (Trees-set _ _) (found.holds held.trees) in
    told opens live unlimited o l held.history
    (subst (λ (t : Trees). Kept t (office_contents o l)) (sym same) held.kept)

-- the same for schema 1
pub tells_former : (image : Image) (s : State) → Opens s → IsLive s → FindsIn image s → TellsFormer image s
tells_former image s opens live found o l held =
    let c = former_contents o l in
    let same : s.committed.trees ≡ held.trees = ∥∥₁_elim held.holds (Trees-set _ _) (found.holds held.trees) in
    let kept : Had c (record { schema = without_ca; trees = s.committed.trees }) =
    subst (λ (t : Trees). Had c (record { schema = without_ca; trees = t })) (sym same) held.had in
    let schema = one_schema without_ca s.committed.schema s.committed.trees refl kept.sound (live opens.is_open).1 in
    let had : Had c s.committed = record { schema = schema; sound = kept.sound; holds = kept.holds } in
    record {
      plain = held.plain;
      rows = λ _. record {
        autocommit = opens.autocommit;
        now = subst (Had c) (sym opens.clean) had;
        committed = had;
      };
    }

-- no table is read from files that hold no office
no_tables : (image : Image) (s : State) → FindsIn image s → HoldsNone image → IsSound no_schema s.committed.trees
no_tables image s found (inl nothing) =
    empty_is_sound s.committed.trees (found_nothing image s.committed.trees nothing found.reads).1
no_tables image s found (inr held) =
    let same : s.committed.trees ≡ held.0 = ∥∥₁_elim held.1 (Trees-set _ _) (found.holds held.0) in
    subst (IsSound no_schema) (sym same) held.2

-- without tables the connection is blank
pub blank_if_none : (image : Image) (s : State) → Opens s → IsLive s → FindsIn image s → IsBlankIfNone image s
blank_if_none image s opens live found none =
    let sound = no_tables image s found none in
    let schema = one_schema no_schema s.committed.schema s.committed.trees refl sound (live opens.is_open).1 in
    let bare : IsBare no_schema s.committed = (schema, tt) in
    record {
      autocommit = opens.autocommit;
      now = subst (IsBare no_schema) (sym opens.clean) bare;
      committed = bare;
    }

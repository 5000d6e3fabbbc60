-- What files hold whose list guard wasn't opened or made.
use Rattle.std.proofs.Common.{◌≡◌, ◌⊎◌, Bool, true, false, None, Some, ap, arith, inl, inr, refl, subst, sym}
use Rattle.std.proofs.Math.Logic.{∥∥₁_elim, ∥∥₁_map}
use Rattle.sqlite_disk.specs.declared.Disk.{Ghosts}
use Rattle.sqlite_disk.specs.declared.Files.{Files}
use Rattle.sqlite_wal.specs.Recovery.{Image}
use Rattle.sqlite_wal.specs.Files.{outcomes}
use Rattle.sqlite_wal.specs.Reads.{AreClean}
use Rattle.sqlite_trees.specs.Tree.{Trees}
use Rattle.sqlite_trees.specs.Props.{Trees-set}
use Rattle.sqlite_store.specs.declared.store.FileStore.{FileStore}
use Rattle.sqlite.specs.State.{State as Connection, HasCleanDisk, Survives}
use Rattle.sqlite.specs.Schema.{Schema}
use Rattle.sqlite.specs.Held.{Held}
use Rattle.sqlite.specs.Files.{HoldsDatabase, file_state}
use Rattle.store_sql.specs.Calls.{IsBare}
use Rattle.store_sql.specs.Schema.{no_schema}
use Rattle.list_guard.specs.State.{State, opened}
use Rattle.store_sql.specs.Calls.{Never}
use Rattle.list_sql.specs.Contents.{Kept}
use Rattle.list_sql.specs.Keeping.{HasList}
use Rattle.list_sql.specs.Look.{is_empty}
use Rattle.list_sql.specs.Opening.{LeavesNew}
use Rattle.list_sql.specs.Rows.{list_contents}
use Rattle.rows.specs.Transactions.{Rests}
use Rattle.list_sql.specs.Images.{Holds, Standing}
use Rattle.station_jobs.specs.declared.station_fault.StationFault.{StationFault}
use Rattle.sshstation.specs.ListFiles.{OpensLists}
use Rattle.sshstation.specs.Unopened.{HoldsSame, IsLeft, LeavesDatabase, Settles}
use Rattle.sshstation.specs.UnopenedLists.{HoldsNew, MakesNone}
use Rattle.sshstation.proofs.Unopened.{either_left, holds_same, is_no_schema, same_none}

-- files that hold the same database hold the same list guard, or none again
pub same_standing : (image left : Image) → HoldsSame image left → (before : Standing) → Holds image before
    → Holds left before
same_standing image left same None none = same_none image left same none
same_standing image left same (Some s) held =
    let are : same.0 ≡ held.1.trees = ∥∥₁_elim held.1.holds (Trees-set _ _) (same.2.holds held.1.trees) in (
      held.0,
      record {
        trees = same.0;
        holds = ∣ same.1 ∣₁;
        kept = subst (λ (t : Trees). Kept t (list_contents s)) (sym are) held.1.kept;
      },
    )

-- a connection that was just opened, and whose schema is empty, is blank
blank_of : (c : Connection) → c.in_transaction ≡ false → c.now ≡ c.committed → is_empty c.now.schema ≡ true
    → Rests (IsBare no_schema) c
blank_of c autocommit same empty =
    let bare : IsBare no_schema c.now = (is_no_schema c.now.schema empty, tt) in
    record {
      autocommit = autocommit;
      now = bare;
      committed = subst (IsBare no_schema) same bare;
    }

module _ {D : Type 0} {g : Ghosts D} (settles : Settles g) (image : Image) (first last : Held (FileStore D g))
    (opens : OpensLists image first) where
  again : HasCleanDisk (file_state first) → (left : Image) (trees : Trees) → HoldsDatabase left trees
      → (file_state first).may_leave trees → HoldsSame image left
  again clean left trees holds may =
      holds_same settles image first (opens.opened clean).0.is_open (opens.found clean) left trees holds may

  -- ---- a list guard that wasn't opened

  pub holds_again : (files : Files D) → LeavesDatabase last files
      → Survives (file_state first) (file_state last) Never → AreClean g files.log files.db → (left : Image)
      → outcomes g files.log files.db left → ∥ HoldsSame image left ∥₁
  holds_again files leaves survives honest left may =
      let over = leaves honest in
      let clean : HasCleanDisk (file_state first) = omega (arith, survives.clean, over.0) in
      ∥∥₁_map (over.1 left may) (λ db.
      again clean left db.0 db.1 (either_left (survives.crash over.0 db.0 db.2)))

  -- ---- a list guard that wasn't made

  module _ (survives : Survives (file_state first) (file_state last) (LeavesNew (file_state first)))
      (foreign : is_empty (file_state first).now.schema ≡ false → last ≡ first) where
    -- they hold what they held, or the new list guard
    abbrev Either : Image → Type 0
    Either left = HoldsSame image left ⊎ HoldsNew (file_state first) left

    or_new : HasCleanDisk (file_state first) → is_empty (file_state first).now.schema ≡ true → (left : Image)
        (trees : Trees) → HoldsDatabase left trees
        → (file_state first).may_leave trees ⊎ LeavesNew (file_state first) trees → Either left
    or_new clean empty left trees holds (inl may) = inl (again clean left trees holds may)
    or_new clean empty left trees holds (inr new) =
        let is = (opens.opened clean).0 in
        let kept = new.1 tt (blank_of (file_state first) is.autocommit is.clean empty) in
        inr (empty, (tt, record { trees = trees; holds = ∣ holds ∣₁; kept = kept }))

    pub holds_or_begins : (files : Files D) → LeavesDatabase last files → AreClean g files.log files.db
        → (left : Image) → outcomes g files.log files.db left → ∥ Either left ∥₁
    holds_or_begins files leaves honest left may =
        by_name (is_empty (file_state first).now.schema) refl
      where
        over : HasCleanDisk (file_state last)
            × ((image : Image) → outcomes g files.log files.db image → ∥ IsLeft last image ∥₁)
        over = leaves honest

        clean : HasCleanDisk (file_state first)
        clean = omega (arith, survives.clean, over.0)

        by_name : (empty : Bool) → is_empty (file_state first).now.schema ≡ empty → ∥ Either left ∥₁
        by_name false is =
            let same : last ≡ first = foreign is in
            ∥∥₁_map (over.1 left may) (λ db.
            let may_leave : (file_state first).may_leave db.0 =
            subst (λ (c : Held (FileStore D g)). (file_state c).may_leave db.0) same db.2 in
            let held : Either left = inl (again clean left db.0 db.1 may_leave) in held)
        by_name true is =
            ∥∥₁_map (over.1 left may) (λ db.
            or_new clean is left db.0 db.1 (survives.crash over.0 db.0 db.2))

-- ---- what the files of a list guard that wasn't made hold

-- they hold this, or in place of none a new list guard
abbrev pub IsOrBegins : Image → Standing → Type 0
IsOrBegins left before = Holds left before ⊎ ((before ≡ None) × Holds left (Some opened))

module _ {D : Type 0} (g : Ghosts D) (image : Image) (e : StationFault) (files : Files D)
    (is : MakesNone g image e files) (honest : AreClean g files.log files.db) where
  clean_first : HasCleanDisk (file_state is.conn)
  clean_first = is.honest (is.leaves honest).0

  -- a database with a list guard isn't empty
  filled : (s : State) → HasList s (file_state is.conn) → is_empty (file_state is.conn).now.schema ≡ false
  filled s has = ap (λ (schema : Schema). is_empty schema) has.now.schema

  is_or_begins : (left : Image) (before : Standing) → Holds image before
      → HoldsSame image left ⊎ HoldsNew (file_state is.conn) left → IsOrBegins left before
  is_or_begins left before holds (inl same) = inl (same_standing image left same before holds)
  is_or_begins left None none (inr new) = inr (refl, new.1)
  is_or_begins left (Some s) held (inr new) =
      let full = filled s (is.files.held clean_first s held.1) in
      let empty = new.0 in absurd cc

  pub or_begins : (left : Image) → outcomes g files.log files.db left → (before : Standing) → Holds image before
      → ∥ IsOrBegins left before ∥₁
  or_begins left may before holds = ∥∥₁_map (is.holds honest left may) (is_or_begins left before holds)

-- What files hold whose guard wasn't opened or made.
use Rattle.std.proofs.Common.{◌≡◌, ◌⊎◌, ◌∙◌, ◌&&◌, ◌==◌, ◌∷◌, [], Bool, true, false, IsTrue, List, None, Result}
use Rattle.std.proofs.Common.{Some, Ok, Err, ap, arith, inl, inr, length, refl, subst, sym}
use Rattle.std.proofs.lemmas.Bool.{and_parts, eqb-true}
use Rattle.std.proofs.Math.Logic.{∥∥₁_elim, ∥∥₁_map}
use Rattle.sqlite_disk.specs.declared.Disk.{Ghosts}
use Rattle.sqlite_disk.specs.declared.Files.{Files}
use Rattle.sqlite_wal.specs.Recovery.{Image}
use Rattle.sqlite_wal.specs.Files.{outcomes}
use Rattle.sqlite_wal.specs.Reads.{AreClean}
use Rattle.sqlite_trees.specs.Tree.{Trees}
use Rattle.sqlite_trees.specs.Props.{Trees-set}
use Rattle.sqlite_catalog.specs.Listing.{IsSound}
use Rattle.sqlite_store.specs.declared.store.FileStore.{FileStore}
use Rattle.sqlite_store.specs.FileStore.{recovers, state, view}
use Rattle.sqlite.specs.State.{State as Connection, HasCleanDisk, Survives}
use Rattle.sqlite.specs.Start.{FindsIn}
use Rattle.sqlite.specs.Schema.{Schema}
use Rattle.sqlite.specs.Table.{Table}
use Rattle.sqlite_schema.specs.declared.schema.Index.{Index}
use Rattle.sqlite_schema.specs.declared.schema.View.{View}
use Rattle.sqlite.specs.Held.{AreDatabases, Held}
use Rattle.sqlite.specs.Files.{HoldsDatabase, file_state}
use Rattle.sqlite.proofs.ListingLemmas.{empty_is_sound}
use Rattle.sqlite.proofs.Theorems.{opens_again}
use Rattle.store_sql.specs.Calls.{IsBare}
use Rattle.store_sql.specs.Schema.{no_schema}
use Rattle.guard.specs.declared.scope.Scope.{Scope}
use Rattle.guard.specs.State.{State, opened}
use Rattle.store_sql.specs.Calls.{Never}
use Rattle.guard_sql.specs.Contents.{Kept}
use Rattle.guard_sql.specs.Keeping.{HasGuard, IsGuard, IsScope}
use Rattle.guard_sql.specs.Look.{is_empty}
use Rattle.guard_sql.specs.Opening.{LeavesNew}
use Rattle.guard_sql.specs.Rows.{guard_contents}
use Rattle.rows.specs.Transactions.{Rests}
use Rattle.files.specs.Images.{HoldsNone}
use Rattle.files.proofs.HalfMade.{found_nothing}
use Rattle.files.specs.declared.open_fault.OpenFault.{OpenFault}
use Rattle.guard_sql.specs.Images.{Holds, Standing}
use Rattle.station_jobs.specs.declared.station_fault.StationFault.{StationFault}
use Rattle.sshstation.specs.declared.database_files.DatabaseFiles.{DatabaseFiles}
use Rattle.sshstation.specs.declared.database_files.DatabaseFiles.TheVariants as now
use Rattle.sshstation.specs.DatabaseFiles.{AreGivenBack, AreUnopened, Ended}
use Rattle.sshstation.specs.GuardFiles.{OpensFiles}
use Rattle.sshstation.specs.Unopened.{FailsToConnect, HoldsNew, HoldsSame, IsFailure, IsFoundIn, IsLeft, LeavesDatabase}
use Rattle.sshstation.specs.Unopened.{MakesNone, OpensNoFiles, Settles}

-- ---- files that weren't opened

module _ {D S : Type 0} (g : Ghosts D) (image : Image) where
  -- an open of unopened files has failed
  pub connect_fails : (e : StationFault) (old : DatabaseFiles S D) (value : S) (fault : OpenFault D)
      → old ≡ now.Unopened value → IsFailure g image e fault → FailsToConnect g image e old (now.Failed fault)
  connect_fails e old value fault same failure =
      subst (λ (f : DatabaseFiles S D). FailsToConnect g image e f (now.Failed fault)) (sym same)
      (fault, refl, failure)

module _ {D S : Type 0} (g : Ghosts D) (image : Image) (value : S) (Idles : Type 0) (Is : Ended D → Type 0)
    (idles : Idles) where
  -- files that are still unopened
  pub unopened_told : (files : DatabaseFiles S D) → AreUnopened value files
      → AreGivenBack g image value Idles Is files
  unopened_told files same =
      subst (λ (f : DatabaseFiles S D). AreGivenBack g image value Idles Is f) (sym same) (refl, idles)

  -- they are, or an open of them has failed
  pub no_files_told : (Fault : StationFault → Type 0) (e : StationFault) (old new : DatabaseFiles S D)
      → AreUnopened value old → OpensNoFiles g image Fault e old new → AreGivenBack g image value Idles Is new
  no_files_told Fault e old new unopened (inl is) = unopened_told new (is.1 ∙ unopened)
  no_files_told Fault e old new unopened (inr fails) =
      let is : FailsToConnect g image e (now.Unopened value) new =
      subst (λ (f : DatabaseFiles S D). FailsToConnect g image e f new) unopened fails in
      subst (λ (f : DatabaseFiles S D). AreGivenBack g image value Idles Is f) (sym is.1) (is.2.1, λ none. idles)

-- ---- any database

-- the connection that a fault returned, or this one
abbrev pub conn_of : {X F C : Type 0} → C → Result X (F × C) → C
conn_of other (Ok x) = other
conn_of other (Err e) = e.1

pub either_left : {A : Type 0} → A ⊎ ⊥ → A
either_left (inl a) = a
either_left (inr never) = absurd never

-- what an abandoned connection leaves is a database that it could leave before
pub is_left : {D : Type 0} {g : Ghosts D} (c : Held (FileStore D g)) (it : FileStore D g) → IsTrue (view it).is_numbered
    → AreDatabases (recovers it) → ((trees : Trees) → recovers it trees → (file_state c).may_leave trees)
    → (image : Image) → (state it).may_leave image → ∥ IsLeft c image ∥₁
is_left c it numbered sound fewer image may =
    ∥∥₁_map (opens_again it numbered sound image may)
    (λ db. let left : IsLeft c image = (db.0, db.2, fewer db.0 db.1) in left)

-- files that hold the same database hold none again, if they held none
pub same_none : (image left : Image) → HoldsSame image left → HoldsNone image → HoldsNone left
same_none image left same (inl nothing) =
    inr (
      same.0,
      ∣ same.1 ∣₁,
      empty_is_sound same.0 (found_nothing image same.0 nothing same.2.reads).1,
    )
same_none image left same (inr held) =
    let are : same.0 ≡ held.0 = ∥∥₁_elim held.1 (Trees-set _ _) (same.2.holds held.0) in
    inr (same.0, ∣ same.1 ∣₁, subst (IsSound no_schema) (sym are) held.2)

-- and the same guard, if they held one
pub same_standing : (image left : Image) → HoldsSame image left → (before : Standing) → Holds image before
    → Holds left before
same_standing image left same None none = same_none image left same none
same_standing image left same (Some s) held =
    let are : same.0 ≡ held.1.trees = ∥∥₁_elim held.1.holds (Trees-set _ _) (same.2.holds held.1.trees) in (
      held.0,
      record {
        trees = same.0;
        holds = ∣ same.1 ∣₁;
        kept = subst (λ (t : Trees). Kept t (guard_contents s)) (sym are) held.1.kept;
      },
    )

-- the tables that a connection shows
abbrev pub tables_of : {D : Type 0} {g : Ghosts D} → Held (FileStore D g) → List Table
tables_of c = (file_state c).now.schema.tables

-- by whether a test holds
pub by_test : {P : Type 0} (b : Bool) → (b ≡ true → P) → (b ≡ false → P) → P
by_test true if_true if_false = if_true refl
by_test false if_true if_false = if_false refl

-- an empty schema is the one without tables
no_entries : {X : Type 0} (xs : List X) → (length xs == 0) ≡ true → xs ≡ []
no_entries [] same = refl
no_entries (x ∷ xs) same = absurd (let none = eqb-true (length (x ∷ xs)) 0 same in omega (arith, none))

pub is_no_schema : (s : Schema) → is_empty s ≡ true → s ≡ no_schema
is_no_schema s empty =
    let first = and_parts (length s.tables == 0) ((length s.indexes == 0) && (length s.views == 0)) empty in
    let rest = and_parts (length s.indexes == 0) (length s.views == 0) first.1 in
    ap (λ (t : List Table). let r : Schema = record { tables = t; indexes = s.indexes; views = s.views } in r)
    (no_entries s.tables first.0)
    ∙ (ap (λ (i : List Index). let r : Schema = record { tables = []; indexes = i; views = s.views } in r)
    (no_entries s.indexes rest.0)
    ∙ ap (λ (v : List View). let r : Schema = record { tables = []; indexes = []; views = v } in r)
    (no_entries s.views rest.1))

-- so a connection that was just opened, and whose schema is empty, is blank
blank_of : (c : Connection) → c.in_transaction ≡ false → c.now ≡ c.committed → is_empty c.now.schema ≡ true
    → Rests (IsBare no_schema) c
blank_of c autocommit same empty =
    let bare : IsBare no_schema c.now = (is_no_schema c.now.schema empty, tt) in
    record {
      autocommit = autocommit;
      now = bare;
      committed = subst (IsBare no_schema) same bare;
    }

-- what a new connection may leave is what its files held
pub holds_same : {D : Type 0} {g : Ghosts D} → Settles g → (image : Image) (c : Held (FileStore D g))
    → IsTrue (file_state c).is_open → FindsIn image (file_state c) → (left : Image) (trees : Trees)
    → HoldsDatabase left trees → (file_state c).may_leave trees → HoldsSame image left
holds_same settles image c is_open found left trees holds may =
    let same : trees ≡ (file_state c).committed.trees = settles c trees is_open may in (
      trees,
      holds,
      subst (IsFoundIn image) (sym same) (record { holds = found.holds; reads = found.reads }),
    )

module _ {D : Type 0} {g : Ghosts D} (settles : Settles g) (image : Image) (first last : Held (FileStore D g))
    (opens : OpensFiles image first) where
  again : HasCleanDisk (file_state first) → (left : Image) (trees : Trees) → HoldsDatabase left trees
      → (file_state first).may_leave trees → HoldsSame image left
  again clean left trees holds may =
      holds_same settles image first (opens.opened clean).0.is_open (opens.found clean) left trees holds may

  -- ---- a guard that wasn't opened

  pub holds_again : (files : Files D) → LeavesDatabase last files
      → Survives (file_state first) (file_state last) Never → AreClean g files.log files.db → (left : Image)
      → outcomes g files.log files.db left → ∥ HoldsSame image left ∥₁
  holds_again files leaves survives honest left may =
      let over = leaves honest in
      let clean : HasCleanDisk (file_state first) = omega (arith, survives.clean, over.0) in
      ∥∥₁_map (over.1 left may) (λ db.
      again clean left db.0 db.1 (either_left (survives.crash over.0 db.0 db.2)))

  -- ---- a guard that wasn't made

  module _ (scope : Scope) (lawful : IsScope scope)
      (survives : Survives (file_state first) (file_state last) (LeavesNew scope (file_state first)))
      (foreign : is_empty (file_state first).now.schema ≡ false → last ≡ first) where
    new_guard : IsGuard (opened scope)
    new_guard = record { scope = lawful; numbers = tt }

    -- they hold what they held, or the new guard
    abbrev Either : Image → Type 0
    Either left = HoldsSame image left ⊎ HoldsNew scope (file_state first) left

    or_new : HasCleanDisk (file_state first) → is_empty (file_state first).now.schema ≡ true → (left : Image)
        (trees : Trees) → HoldsDatabase left trees
        → (file_state first).may_leave trees ⊎ LeavesNew scope (file_state first) trees → Either left
    or_new clean empty left trees holds (inl may) = inl (again clean left trees holds may)
    or_new clean empty left trees holds (inr new) =
        let is = (opens.opened clean).0 in
        let kept = new.1 tt (blank_of (file_state first) is.autocommit is.clean empty) in
        inr (empty, (new_guard, record { trees = trees; holds = ∣ holds ∣₁; kept = kept }))

    pub holds_or_begins : (files : Files D) → LeavesDatabase last files → AreClean g files.log files.db
        → (left : Image) → outcomes g files.log files.db left → ∥ Either left ∥₁
    holds_or_begins files leaves honest left may =
        by_name (is_empty (file_state first).now.schema) refl
      where
        over : HasCleanDisk (file_state last)
            × ((image : Image) → outcomes g files.log files.db image → ∥ IsLeft last image ∥₁)
        over = leaves honest

        clean : HasCleanDisk (file_state first)
        clean = omega (arith, survives.clean, over.0)

        by_name : (empty : Bool) → is_empty (file_state first).now.schema ≡ empty → ∥ Either left ∥₁
        by_name false is =
            let same : last ≡ first = foreign is in
            ∥∥₁_map (over.1 left may) (λ db.
            let may_leave : (file_state first).may_leave db.0 =
            subst (λ (c : Held (FileStore D g)). (file_state c).may_leave db.0) same db.2 in
            let held : Either left = inl (again clean left db.0 db.1 may_leave) in held)
        by_name true is =
            ∥∥₁_map (over.1 left may) (λ db.
            or_new clean is left db.0 db.1 (survives.crash over.0 db.0 db.2))

-- ---- what the files of a guard that wasn't made hold

-- they hold this, or in place of none a new guard
abbrev pub IsOrBegins : Image → Scope → Standing → Type 0
IsOrBegins left scope before = Holds left before ⊎ ((before ≡ None) × Holds left (Some (opened scope)))

module _ {D : Type 0} (g : Ghosts D) (image : Image) (scope : Scope) (e : StationFault) (files : Files D)
    (is : MakesNone g image scope e files) (honest : AreClean g files.log files.db) where
  clean_first : HasCleanDisk (file_state is.conn)
  clean_first = is.honest (is.leaves honest).0

  -- a database with a guard isn't empty
  filled : (s : State) → HasGuard s (file_state is.conn) → is_empty (file_state is.conn).now.schema ≡ false
  filled s has = ap (λ (schema : Schema). is_empty schema) has.now.schema

  is_or_begins : (left : Image) (before : Standing) → Holds image before
      → HoldsSame image left ⊎ HoldsNew scope (file_state is.conn) left → IsOrBegins left scope before
  is_or_begins left before holds (inl same) = inl (same_standing image left same before holds)
  is_or_begins left None none (inr new) = inr (refl, new.1)
  is_or_begins left (Some s) held (inr new) =
      let full = filled s (is.files.held clean_first s held.1) in
      let empty = new.0 in absurd cc

  pub or_begins : (left : Image) → outcomes g files.log files.db left → (before : Standing) → Holds image before
      → ∥ IsOrBegins left scope before ∥₁
  or_begins left may before holds = ∥∥₁_map (is.holds honest left may) (is_or_begins left before holds)

-- A run that ended, and the office in the files that it left.
use Rattle.std.proofs.Common.{◌≡◌, ◌∙◌, ◌⊎◌, List, [], ◌∷◌, ◌++◌, Some, None, inl, inr, IsTrue, refl, sym, subst}
use Rattle.std.proofs.Math.Logic.{∥∥₁_map}
use Rattle.sqlite_disk.specs.declared.Disk.{Ghosts}
use Rattle.sqlite_disk.specs.declared.Files.{Files}
use Rattle.sqlite_wal.specs.Recovery.{Image}
use Rattle.sqlite_wal.proofs.LogLemmas.{SeenMayStay}
use Rattle.sqlite_trees.specs.Tree.{Trees}
use Rattle.sqlite_store.specs.declared.store.FileStore.{FileStore}
use Rattle.sqlite_store.specs.Laws.{settled_at}
use Rattle.sqlite_schema.specs.declared.schema.Schema.{Schema}
use Rattle.sqlite_catalog.specs.Listing.{IsSound}
use Rattle.sqlite.specs.State.{State, HasCleanDisk, IsLive, Opens}
use Rattle.sqlite.specs.Effect.{Database}
use Rattle.sqlite.specs.Files.{HoldsDatabase, file_state}
use Rattle.sqlite.proofs.Theorems.{opens_again}
use Rattle.office.specs.declared.opening.Opening.{Opening}
use Rattle.office.specs.declared.arrival.Arrival.{Arrival}
use Rattle.store_sql.specs.Contents.{Kept}
use Rattle.store_sql.specs.Schema.{no_schema}
use Rattle.store.specs.Rows.{office_contents}
use Rattle.store.specs.Transactions.{IsAtRest}
use Rattle.store.specs.Meaning.{IsBlank, IsHistory, IsLeft}
use Rattle.web.specs.Runs.{AllDue}
use Rattle.restart.specs.Images.{Holds, HoldsOffice, Standing}
use Rattle.restart.specs.Lives.{Asked, End, GivesNone, IsDue}
use Rattle.restart.specs.Lives.End.{closed, cut}
use Rattle.restart.specs.Runs.{AreFounded, ClosedRuns, CutRuns, Does, IsFound, IsFounded}
use Rattle.restart.specs.Runs.{IsUnfounded}
use Rattle.restart.proofs.Left.{leaves_what_is_told}

-- an office's status after a run, as specified from the status before, and as the files left hold it
abbrev pub Stands : Asked → End → Standing → Image → Type 0
Stands asked end before left = (after : Standing) × IsDue asked end before after × Holds left after

-- ---- a database without tables

-- the trees of a blank database are sound for the schema without tables
bare_trees : (s : State) → Opens s → IsLive s → IsBlank s → IsSound no_schema s.committed.trees
bare_trees s opens live blank =
    subst (λ (schema : Schema). IsSound schema s.committed.trees) blank.committed.0 (live opens.is_open).1

-- the same at the end of a run that left the database as it was
still_bare : (founds : _) (opened last : State) → Opens opened → IsLive opened → IsBlank opened
    → IsUnfounded founds opened last → IsTrue last.is_open → IsSound no_schema last.committed.trees
still_bare founds opened last opens live blank unfounded still =
    let rest : IsAtRest opened = (opens.autocommit, opens.clean) in
    let after = unfounded.before.rest still rest in
    let same : last.committed ≡ opened.committed =
    sym after.1 ∙ (unfounded.before.same still rest ∙ opens.clean) in
    subst (λ (d : Database). IsSound no_schema d.trees) (sym same) (bare_trees opened opens live blank)

-- ---- a clean close

pub closed_runs : {D : Type 0} {g : Ghosts D} (files : Files D) → ClosedRuns g files
closed_runs {D} {g} files image asked opened last found did copied left may = go
  where
    over : HasCleanDisk (file_state opened) × Does asked (file_state opened) (file_state last)
    over = did copied.was_clean

    is : IsFound image opened
    is = found over.0

    made : GivesNone asked → IsFounded asked.founds (file_state last) → Stands asked closed None left
    made none founded = (
      Some (founded.0, []),
      (none, founded.1, refl),
      leaves_what_is_told last files copied founded.0 [] founded.2.tells left may,
    )

    unmade : GivesNone asked → IsBlank (file_state opened)
        → IsUnfounded asked.founds (file_state opened) (file_state last) → Stands asked closed None left
    unmade none blank unfounded = (
      None,
      none,
      inr (
        (file_state last).committed.trees,
        (copied.left left may).both,
        still_bare asked.founds (file_state opened) (file_state last) is.opened.0 is.opened.1 blank unfounded
            copied.was_open,
      ),
    )

    go : (before : Standing) → Holds image before → ∥ Stands asked closed before left ∥₁
    go (Some p) holds =
        let done = over.1.office p.0 p.1 (is.told p.0 p.1 holds) in
        ∣ (
          Some (p.0, done.0),
          (refl, done.0, done.1, refl),
          leaves_what_is_told last files copied p.0 done.0 done.2 left may,
        ) ∣₁
    go None holds =
        let blank = is.blank holds in
        let done = over.1.none blank in
        elim done.1 [
          | inl founded ↦ ∣ made done.0 founded ∣₁
          | inr unfounded ↦ ∣ unmade done.0 blank unfounded ∣₁
        ]

-- ---- an abandoned connection

pub cut_runs : {D : Type 0} {g : Ghosts D} → SeenMayStay g → (it : FileStore D g) → CutRuns g it
cut_runs {D} {g} stays it image asked opened last found did up left may = go
  where
    over : HasCleanDisk (file_state opened) × Does asked (file_state opened) (file_state last)
    over = did up.clean

    is : IsFound image opened
    is = found over.0

    -- whatever a crash makes of the files, opening them finds trees that the connection might leave
    opens : ∥ ((db : Trees) × (file_state last).may_leave db × HoldsDatabase left db) ∥₁
    opens = ∥∥₁_map (opens_again it up.numbered up.sound left may) (λ db.
        let r : (trees : Trees) × (file_state last).may_leave trees × HoldsDatabase left trees =
        (db.0, up.fewer db.0 db.1, db.2) in r)

    holds_office : (o : Opening) (l : List Arrival) (db : Trees) → HoldsDatabase left db → IsHistory o l
        → Kept db (office_contents o l) → HoldsOffice left o l
    holds_office o l db holds history kept = record { history = history; trees = db; holds = ∣ holds ∣₁; kept = kept }

    told : (p : Opening × List Arrival) (l : List Arrival) → AllDue p.0 p.1 asked.exchanges asked.given l
        → IsHistory p.0 l → (db : Trees) → HoldsDatabase left db → IsLeft p.0 l db → Stands asked cut (Some p) left
    told p l due history db holds (inl kept) =
        (Some (p.0, l), (refl, l, due, inl refl), holds_office p.0 l db holds history kept)
    told p l due history db holds (inr more) = (
      Some (p.0, l ++ more.0 ∷ []),
      (refl, l, due, inr (more.0, refl)),
      holds_office p.0 (l ++ more.0 ∷ []) db holds more.1 more.2,
    )

    made : GivesNone asked → IsFounded asked.founds (file_state last) → (db : Trees) → (file_state last).may_leave db
        → HoldsDatabase left db → Stands asked cut None left
    made none founded db leaves holds = (
      Some (founded.0, []),
      (none, founded.1, refl),
      holds_office founded.0 [] db holds founded.2.tells.history (founded.2.crash db leaves),
    )

    unmade : GivesNone asked → IsBlank (file_state opened) → (db : Trees) → HoldsDatabase left db
        → (file_state opened).may_leave db ⊎ AreFounded asked.founds db → Stands asked cut None left
    unmade none blank db holds (inl before) = (
      None,
      none,
      inr (
        db,
        ∣ holds ∣₁,
        subst (λ (trees : Trees). IsSound no_schema trees)
            (sym (settled_at opened.store stays db is.opened.0.is_open before))
            (bare_trees (file_state opened) is.opened.0 is.opened.1 blank),
      ),
    )
    unmade none blank db holds (inr founded) = (
      Some (founded.0, []),
      (none, founded.1, refl),
      holds_office founded.0 [] db holds founded.2 founded.3,
    )

    go : (before : Standing) → Holds image before → ∥ Stands asked cut before left ∥₁
    go (Some p) holds =
        let done = over.1.office p.0 p.1 (is.told p.0 p.1 holds) in
        ∥∥₁_map opens (λ db. told p done.0 done.1 done.2.history db.0 db.2 (done.2.left db.0 db.1))
    go None holds =
        let blank = is.blank holds in
        let done = over.1.none blank in
        elim done.1 [
          | inl founded ↦ ∥∥₁_map opens (λ db. made done.0 founded db.0 db.1 db.2)
          | inr unfounded ↦ ∥∥₁_map opens (λ db. unmade done.0 blank db.0 db.2 (unfounded.crash db.0 db.1))
        ]

-- Opening a database for a job, and the office in it afterwards.
use Rattle.office_jobs.proofs.Words.{AddsArrivals, Asked, Bor, EndFault, Err, Follows, Ghosts, HasCleanDisk, Held}
use Rattle.office_jobs.proofs.Words.{IsTrue, JobFault, List, OfficeJob, Ok, Opening, OpensFor, OpensThere, Result, refl}
use Rattle.office_jobs.proofs.Words.{state, subst, ℕ, ◌≡◌}
use Rattle.sqlite_trees.specs.declared.store.Store as store
use Rattle.sqlite.specs.declared.error.Error.{Error}
use Rattle.store_sql.specs.Honest.{StaysClean}
use Rattle.restart.specs.Ending.{IsEnd}
use Rattle.restart.specs.Lives.{End}
use Rattle.restart.specs.Runs.{Does, KeepsOffice, RunsOn}
use Rattle.restart.proofs.Lives.{runs_on}
use Rattle.office_jobs.specs.declared.job.OfficeJob.TheVariants.{Init}
use Rattle.office_jobs.specs.Finding.{Opens, found_open}
use Rattle.office_jobs.specs.Whole.{IsReady, KeepsDatabases}

-- a job that makes no office opens an existing database
pub there_for : {W File Conn Incoming Reader Writer : Type 0} (world : Ghosts W File Conn Incoming Reader Writer)
    (path : List ℕ) (job : OfficeJob) (w : W) (found : Result Conn JobFault) (w' : W)
    → ((opening : Bor Opening) → job ≡ Init opening → ⊥) → OpensThere world path w found w'
    → OpensFor world path job w found w'
there_for world path (Init opening) w found w' never h = absurd (never opening refl)
there_for world path other w found w' never h = h

-- ---- an opened database is ready

one_ok : {A E : Type 0} (found : Result A E) (x y : A) → found ≡ Ok x → found ≡ Ok y → y ≡ x
one_ok found x y first second = cc

module _ {W File Tables Incoming Reader Writer : Type 0} (store : store.Ghosts Tables)
    (world : Ghosts W File (Held Tables) Incoming Reader Writer) (databases : KeepsDatabases store world)
    (path : List ℕ) where
  -- the connection that was found was opened from some world
  abbrev pub WasOpened : Held Tables → W → Type 0
  WasOpened conn w' = (w : W) × world.opens w path (Ok conn) w'

  once : (got : Result (Held Tables) Error) (w : W) (conn : Held Tables) (w' : W) → world.opens w path got w'
      → Ok conn ≡ found_open got → WasOpened conn w'
  once (Ok other) w conn w' opens came =
      (w, subst (λ (c : Held Tables). world.opens w path (Ok c) w') (one_ok (Ok conn) conn other refl came) opens)
  once (Err e) w conn w' opens came = absurd (cc)

  step : (first : Result (Unit {0}) JobFault) (ready : W) (conn : Held Tables) (w' : W)
      → Follows (λ _ found. Opens world path ready found w') (w' ≡ ready) first (Ok conn) → WasOpened conn w'
  step (Ok x) ready conn w' h = once h.got ready conn w' h.is_opened h.came
  step (Err e) ready conn w' h = let no = h.0 in absurd (cc)

  pub opened_there : (w : W) (conn : Held Tables) (w' : W) → OpensThere world path w (Ok conn) w' → WasOpened conn w'
  opened_there w conn w' h = step h.first h.ready conn w' h.opened

  pub opened_for : (job : OfficeJob) (w : W) (conn : Held Tables) (w' : W) → OpensFor world path job w (Ok conn) w'
      → WasOpened conn w'
  opened_for (Init opening) w conn w' h = step h.first h.ready conn w' h.opened
  opened_for other w conn w' h = step h.first h.ready conn w' h.opened

  pub ready_there : (w : W) (conn : Held Tables) (w' : W) → OpensThere world path w (Ok conn) w' → IsReady store conn
  ready_there w conn w' h = let was = opened_there w conn w' h in databases.ready was.0 path (Ok conn) w' was.1

  pub ready_for : (job : OfficeJob) (w : W) (conn : Held Tables) (w' : W) → OpensFor world path job w (Ok conn) w'
      → IsReady store conn
  ready_for job w conn w' h = let was = opened_for job w conn w' h in databases.ready was.0 path (Ok conn) w' was.1

  -- a run that added arrivals keeps the office
  pub kept : (opened between w' : W) (conn last : Held Tables) (closing : Result (Unit {0}) EndFault)
      → WasOpened conn opened → StaysClean store conn last
      → (IsTrue (state store conn).is_open → HasCleanDisk (state store last)
      → AddsArrivals (state store conn) (state store last))
      → world.closes between last closing w' → closing ≡ Ok tt → world.is_clean w' last
      → KeepsOffice world.image (world.leaves w' last)
  kept opened between w' conn last closing was honest adds closes well =
      let ready = databases.ready was.0 path (Ok conn) opened was.1 in
      databases.keeps was.0 opened between w' path conn last was.1
      (λ clean. (
        honest clean,
        λ still. adds (ready.rests (honest clean)).0 clean,
      ))
      (subst (λ (r : Result (Unit {0}) EndFault). world.closes between last r w') well closes)

  -- a run that did what it was asked is a run of the program
  pub ran : (opened between w' : W) (conn last : Held Tables) (closing : Result (Unit {0}) EndFault)
      (Asks : Asked → Type 0) → WasOpened conn opened → StaysClean store conn last
      → (HasCleanDisk (state store last) → IsTrue (state store conn).is_open
      → (asked : Asked) × Asks asked × Does asked (state store conn) (state store last))
      → world.closes between last closing w' → (end : End) → IsEnd closing end → world.is_clean w' last
      → RunsOn Asks world.image end (world.leaves w' last)
  ran opened between w' conn last closing Asks was honest does closes end is clean =
      let ended = databases.ends was.0 opened between w' path conn last closing end was.1 closes is clean in
      let ready = databases.ready was.0 path (Ok conn) opened was.1 in
      let did = does ended.0 (ready.rests (honest ended.0)).0 in
      runs_on Asks world.image did.0 end (world.leaves w' last) did.1 (ended.1 did.0 (λ now. (honest now, did.2)))

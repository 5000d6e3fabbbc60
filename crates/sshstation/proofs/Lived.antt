-- A job over the files of a guard, as a run in their lifetime.
use Rattle.std.proofs.Common.{◌≡◌, ◌⊎◌, ◌<◌, ◌^◌, ◌∙◌, ◌∷◌, [], ℕ, All, List, Option, Some, None, Result, Ok, Err, ap}
use Rattle.std.proofs.Common.{arith, inl, inr, map, refl, subst, sym}
use Rattle.std.specs.Prelude.{IfErr, IfOk, string_bytes}
use Rattle.std.proofs.Math.Logic.{∥∥₁_map}
use Rattle.std.proofs.lemmas.List.Elements.{All-cons, All-nil}
use Rattle.sqlite_disk.specs.declared.Disk.{Ghosts}
use Rattle.sqlite_wal.specs.Recovery.{Image}
use Rattle.sqlite_wal.specs.Files.{outcomes}
use Rattle.sqlite_store.specs.declared.store.FileStore.{FileStore}
use Rattle.sqlite.specs.State.{HasCleanDisk}
use Rattle.sqlite.specs.Schema.{Schema}
use Rattle.sqlite.specs.Files.{file_state}
use Rattle.message.specs.declared.department.Department.{Department}
use Rattle.guard.specs.declared.register.Register as register
use Rattle.guard.specs.declared.scope.Scope.{Scope}
use Rattle.guard.specs.Machine.{State, Question, after, after_all, opened, row_of}
use Rattle.guard.specs.Retirement.{if_retired}
use Rattle.guard.specs.Retiring.{with_last}
use Rattle.guard_sql.specs.declared.store.GuardStore.{GuardStore}
use Rattle.guard_sql.specs.Keeping.{IsGuard}
use Rattle.guard_sql.specs.Look.{is_empty}
use Rattle.guard_sql.proofs.Changed.{last_below, lower_lawful, more_lawful}
use Rattle.files.specs.Images.{HoldsNone}
use Rattle.station_command.specs.declared.job.StationJob.{StationJob}
use Rattle.station_command.specs.declared.job.StationJob.TheVariants as job
use Rattle.list_guard.specs.declared.register.ListRegister as lister
use Rattle.list_jobs.specs.declared.list_file.ListFile as lists
use Rattle.station_jobs.specs.declared.guard_file.GuardFile as file
use Rattle.station_jobs.specs.declared.station_fault.StationFault.{StationFault}
use Rattle.station_jobs.specs.declared.station_fault.StationFault.TheVariants.{BadSerials, SerialApproved}
use Rattle.station_jobs.specs.declared.surroundings.Surroundings as surroundings
use Rattle.station_jobs.specs.Bodies.{PrintsBody, PrintsRows}
use Rattle.station_jobs.specs.Jobs.{InitsIn}
use Rattle.station_jobs.specs.Judging.{AsksGiven, IsBadPolicyAt}
use Rattle.station_jobs.specs.Leaving.{IsNext, OfBodies, OfNone, OfRetiring, Step as JobStep}
use Rattle.station_jobs.specs.Whole.{Begins, ClosesNew, Follows, IsOfGiven, JudgesGiven, LeavesFiles, MakesIn, Retires}
use Rattle.station_jobs.specs.Whole.{RetiresTo, RunsIn, RunsOver, is_input, most_of}
use Rattle.guard_sql.specs.Images.{Holds, HoldsGuard, HoldsKept, Standing}
use Rattle.guard_sql.specs.Lives.{Backs, IsRun, Said}
use Rattle.guard_sql.specs.Steps.{Step, stepped}
use Rattle.guard_sql.proofs.Lives.{runs_on, said_later}
use Rattle.guard_sql.proofs.Steps.{after_step}
use Rattle.sshstation.specs.declared.database_files.DatabaseFiles.{DatabaseFiles}
use Rattle.sshstation.specs.declared.database_files.DatabaseFiles.TheVariants as now
use Rattle.sshstation.specs.DatabaseFiles.{AreLeftAs, AreGivenBack, AreUnopened, Ended}
use Rattle.sshstation.specs.Doing.{BeginsAt, DoesJob, DoesWords, InitsAt}
use Rattle.sshstation.specs.GuardFiles.{AreSettled, EndsGuard, FindsGuard, HaveGuard, HaveOne, IsOfFiles, IsOfSearch}
use Rattle.sshstation.specs.GuardFiles.{MakesGuard}
use Rattle.sshstation.specs.Living.{AreLived, Idles, IsLived, MayTake, said_by}
use Rattle.sshstation.specs.Unopened.{FindsNone, MakesLeaving, MakesNone, OpensLeaving}
use Rattle.sshstation.proofs.Kept.{ended_honest}
use Rattle.sshstation.proofs.Unopened.{IsOrBegins, no_files_told, or_begins, same_standing, unopened_told}
use Rattle.sshstation.proofs.Saying.{Covers, Lasts, Leads, backs_none, given_last, leads_one, leads_then, next_leads}
use Rattle.sshstation.proofs.Saying.{same_lasts, silent, silent_none}

-- ---- the next state

-- the state after a valid one is valid
step_lawful : (s : State) (step : Step) → IsGuard s → IsGuard (stepped s step)
step_lawful s step guard =
    after_step IsGuard s guard step
    (λ q c asks new.
    let most = new.may.to_last in
    let below = last_below s.scope guard.scope in
    let low : c.serial < 2 ^ 63 = omega (arith, most, below) in more_lawful (row_of q c) low s guard)
    (λ last low. lower_lawful last s guard low)

asked_lawful : (s : State) (qs : List Question) → IsGuard s → IsGuard (after_all s qs)
asked_lawful s [] guard = guard
asked_lawful s (q ∷ qs) guard = asked_lawful (after s q) qs (step_lawful s (Step.asking q) guard)

next_lawful : (May : JobStep → Type 0) (s next : State) → IsGuard s → IsNext May s next → IsGuard next
next_lawful May s next guard (inl same) = subst IsGuard (sym same) guard
next_lawful May s next guard (inr (inl (qs, may, same))) = subst IsGuard (sym same) (asked_lawful s qs guard)
next_lawful May s next guard (inr (inr (last, may, retires))) =
    subst IsGuard (ap (if_retired s) retires) (step_lawful s (Step.retiring last) guard)

-- ---- retiring

module _ (Taken : Step → Type 0) (last : ℕ) (taken : Taken (Step.retiring last)) where
  retires_to_last : (s : State) (Left : State → Result ℕ StationFault → Type 0) (r : Result ℕ StationFault)
      → RetiresTo last s (λ t. Left t r) r → Lasts Taken s Said.none Left
  retires_to_last s Left (Ok first) is = record {
    t = with_last s last;
    outcome = Ok first;
    took = subst (Leads Taken s) (ap (if_retired s) is.0) (leads_one Taken s (Step.retiring last) taken);
    backs = backs_none (with_last s last);
    left = is.1;
  }
  retires_to_last s Left (Err BadSerials) is = same_lasts Taken s Left (Err BadSerials) is.1
  retires_to_last s Left (Err SerialApproved) is = same_lasts Taken s Left (Err SerialApproved) is.1
  retires_to_last s Left (Err e) is = same_lasts Taken s Left (Err e) is.1

module _ (S Dk : Type 0) (g : Ghosts Dk) (image : Image) (value : S) where
  abbrev Store : Type 0
  Store = GuardStore (FileStore Dk g)

  abbrev Files : Type 0
  Files = DatabaseFiles S Dk

  -- what became of the files after a job with steps of this sort
  abbrev Told : (Taken : Step → Type 0) → Said → Files → Type 0
  Told Taken said files = AreGivenBack g image value (Idles image said) (IsLived g image Taken said) files

  -- ---- what may be left of the files is left by a run

  -- a run with steps of this sort
  abbrev Comes : (Taken : Step → Type 0) → Standing → Said → Image → Type 0
  Comes Taken before said files =
      (steps : List Step) × All Taken steps
      × IsRun before (record { found = image; steps = steps; said = said; left = files })

  led : (Taken : Step → Type 0) (s t : State) (said : Said) (files : Image) → HoldsKept image s → Leads Taken s t
      → Backs (Some t) said → HoldsKept files t → Comes Taken (Some s) said files
  led Taken s t said files holds took backs left = (
    took.steps,
    took.all,
    record {
      found = holds;
      left = subst (Holds files) (sym took.leads) left;
      backs = subst (λ (p : Standing). Backs p said) (sym took.leads) backs;
    },
  )

  -- the files hold a guard that the job left, or the next one
  one_of : (May : JobStep → Type 0) (Taken : Step → Type 0) → Covers May Taken → (s t next : State) (said : Said)
      (files : Image) → HoldsKept image s → Leads Taken s t → Backs (Some t) said → IsGuard t → IsNext May t next
      → HoldsGuard files t ⊎ HoldsGuard files next → Comes Taken (Some s) said files
  one_of May Taken covers s t next said files holds took backs guard is (inl it) =
      led Taken s t said files holds took backs (guard, it)
  one_of May Taken covers s t next said files holds took backs guard is (inr it) =
      let later = next_leads May Taken covers t next is in
      let still : Backs (Some next) said =
      subst (λ (p : Standing). Backs p said) later.leads (said_later (Some t) later.steps said backs) in
      led Taken s next said files holds (leads_then Taken s t next took later) still
      (next_lawful May t next guard is, it)

  -- the guard with this state is in the files; after a fault, this one or the next one is
  abbrev Filed : (May : JobStep → Type 0) → Files → Store → Result (Unit {0}) StationFault → State → Type 0
  Filed May o last (Ok done) t = AreLeftAs o (HaveGuard last t)
  Filed May o last (Err e) t = (next : State) × IsNext May t next × AreLeftAs o (HaveOne last t next)

  comes : (May : JobStep → Type 0) (Taken : Step → Type 0) → Covers May Taken → (left : Ended Dk) (last : Store)
      (closing : Result (Unit {0}) StationFault) (s t : State) (said : Said) → HoldsKept image s → Leads Taken s t
      → Backs (Some t) said → Filed May (now.Left left) last closing t → (files : Image)
      → outcomes g left.1.log left.1.db files → ∥ Comes Taken (Some s) said files ∥₁
  comes May Taken covers left last (Ok done) s t said holds took backs filed files may =
      ∣ led Taken s t said files holds took backs (filed files may) ∣₁
  comes May Taken covers left last (Err e) s t said holds took backs (next, is, filed) files may =
      ∥∥₁_map (filed.1 files may)
      (λ which. one_of May Taken covers s t next said files holds took backs filed.0 is which)

  -- a guard that was opened, worked on and closed
  opened_lived : (May : JobStep → Type 0) (Taken : Step → Type 0) → Covers May Taken → (o : Files)
      (first last : Store) (closing : Result (Unit {0}) StationFault) (said : Said)
      → FindsGuard image first → AreLeftAs o (EndsGuard last closing)
      → (HasCleanDisk (file_state last.conn) → HasCleanDisk (file_state first.conn))
      → (AreLeftAs o (AreSettled last) → (s : State) → HoldsKept image s
      → (t : State) × Leads Taken s t × Backs (Some t) said × Filed May o last closing t)
      → Told Taken said o
  opened_lived May Taken covers (now.Left left) first last closing said found ends honest did = λ clean whole.
      let settled : AreSettled last left = (clean, whole) in
      let was_clean = honest (ended_honest last closing left.0 left.1 ends settled) in
      runs_on image Taken said (outcomes g left.1.log left.1.db)
      (λ files may before holds. by_standing settled was_clean files may before holds)
    where
      by_standing : AreSettled last left → HasCleanDisk (file_state first.conn) → (files : Image)
          → outcomes g left.1.log left.1.db files → (before : Standing) → Holds image before
          → ∥ Comes Taken before said files ∥₁
      by_standing settled clean files may None holds =
          absurd (found.right (found.files.blank (found.honest clean) holds))
      by_standing settled clean files may (Some s) holds =
          let it = did settled s holds in
          comes May Taken covers left last closing s it.0 said holds it.1 it.2 it.3 files may
  opened_lived May Taken covers other first last closing said found ends honest did = absurd ends

  -- the new guard is in the files, whole
  abbrev FiledNew : Files → Store → Result (Unit {0}) StationFault → State → Type 0
  FiledNew o it (Ok done) t = AreLeftAs o (HaveGuard it t)
  FiledNew o it (Err e) t = AreLeftAs o (HaveOne it t t)

  -- the guard was made in files that held none
  begun : (Taken : Step → Type 0) (scope : Scope) → Taken (Step.making scope) → (files : Image) → HoldsNone image
      → HoldsKept files (opened scope) → Comes Taken None Said.none files
  begun Taken scope taken files blank left = (
    Step.making scope ∷ [],
    All-cons Taken (Step.making scope) [] taken (All-nil Taken),
    record { found = blank; left = left; backs = backs_none (opened scope) },
  )

  made_comes : (Taken : Step → Type 0) (left : Ended Dk) (it : Store) (closing : Result (Unit {0}) StationFault)
      (scope : Scope) → Taken (Step.making scope) → HoldsNone image
      → FiledNew (now.Left left) it closing (opened scope) → (files : Image) → outcomes g left.1.log left.1.db files
      → ∥ Comes Taken None Said.none files ∥₁
  made_comes Taken left it (Ok done) scope taken blank filed files may =
      ∣ begun Taken scope taken files blank (filed files may) ∣₁
  made_comes Taken left it (Err e) scope taken blank filed files may = ∥∥₁_map (filed.1 files may) either
    where
      either : HoldsGuard files (opened scope) ⊎ HoldsGuard files (opened scope) → Comes Taken None Said.none files
      either (inl h) = begun Taken scope taken files blank (filed.0, h)
      either (inr h) = begun Taken scope taken files blank (filed.0, h)

  -- a guard that was made and closed
  made_lived : (Taken : Step → Type 0) (o : Files) (it : Store) (closing : Result (Unit {0}) StationFault)
      (scope : Scope) → Taken (Step.making scope) → MakesGuard image scope it → AreLeftAs o (EndsGuard it closing)
      → (AreLeftAs o (AreSettled it) → HoldsNone image → FiledNew o it closing (opened scope))
      → Told Taken Said.none o
  made_lived Taken (now.Left left) it closing scope taken made ends did = λ clean whole.
      let settled : AreSettled it left = (clean, whole) in
      let is_clean = ended_honest it closing left.0 left.1 ends settled in
      runs_on image Taken Said.none (outcomes g left.1.log left.1.db)
      (λ files may before holds. by_standing settled is_clean files may before holds)
    where
      by_standing : AreSettled it left → HasCleanDisk (file_state it.conn) → (files : Image)
          → outcomes g left.1.log left.1.db files → (before : Standing) → Holds image before
          → ∥ Comes Taken before Said.none files ∥₁
      by_standing settled clean files may None holds =
          made_comes Taken left it closing scope taken holds (did settled holds) files may
      by_standing settled clean files may (Some s) holds =
          let has = made.0.files.held (made.0.honest clean) s holds.1 in
          absurd (made.0.right (ap (λ (schema : Schema). is_empty schema) has.now.schema))
  made_lived Taken other it closing scope taken made ends did = absurd ends

  -- ---- a guard that wasn't opened or made

  -- no step was taken
  stood : (Taken : Step → Type 0) (before : Standing) (said : Said) (files : Image) → Holds image before
      → Backs before said → Holds files before → Comes Taken before said files
  stood Taken before said files holds backs left = (
    [],
    All-nil Taken,
    record { found = holds; left = left; backs = backs },
  )

  -- nobody had the files
  idles : (said : Said) → ((p : Standing) → Backs p said) → Idles image said
  idles said backs =
      runs_on image (λ _. ⊥) said (λ left. left ≡ image)
      (λ files same before holds.
      let left = subst (λ (i : Image). Holds i before) (sym same) holds in
      ∣ stood (λ _. ⊥) before said files holds (backs before) left ∣₁)

  -- the files hold what they held
  again_lived : (Taken : Step → Type 0) (said : Said) → ((p : Standing) → Backs p said) → (e : StationFault) (o : Files)
      → AreLeftAs o (λ left. (left.0 ≡ Ok tt) × FindsNone g image e left.1) → Told Taken said o
  again_lived Taken said backs e (now.Left left) again = λ clean whole.
      runs_on image Taken said (outcomes g left.1.log left.1.db)
      (λ files may before holds.
      ∥∥₁_map (again.1.holds clean files may)
      (λ same. stood Taken before said files holds (backs before) (same_standing image files same before holds)))
  again_lived Taken said backs e other again = absurd again

  -- the same, if they were opened
  unopened_lived : (Taken : Step → Type 0) (said : Said) → ((p : Standing) → Backs p said) → (e : StationFault)
      (old new : Files) → AreUnopened value old → OpensLeaving {g = g} image (Err e) old new → Told Taken said new
  unopened_lived Taken said backs e old new unopened (inl is) =
      no_files_told g image value (Idles image said) (IsLived g image Taken said) (idles said backs) IsOfSearch e old new
      unopened is
  unopened_lived Taken said backs e old new unopened (inr is) = again_lived Taken said backs e new is

  unmade_comes : (Taken : Step → Type 0) (scope : Scope) → Taken (Step.making scope) → (files : Image)
      (before : Standing) → Holds image before → IsOrBegins files scope before → Comes Taken before Said.none files
  unmade_comes Taken scope taken files before holds (inl held) =
      stood Taken before Said.none files holds (silent_none before) held
  unmade_comes Taken scope taken files None holds (inr new) = begun Taken scope taken files holds new.1
  unmade_comes Taken scope taken files (Some s) holds (inr new) = let no = new.0 in absurd cc

  -- the files hold what they held, or the new guard in place of none
  begun_lived : (Taken : Step → Type 0) (scope : Scope) → Taken (Step.making scope) → (e : StationFault) (o : Files)
      → AreLeftAs o (λ left. (left.0 ≡ Ok tt) × MakesNone g image scope e left.1) → Told Taken Said.none o
  begun_lived Taken scope taken e (now.Left left) again = λ clean whole.
      runs_on image Taken Said.none (outcomes g left.1.log left.1.db)
      (λ files may before holds.
      ∥∥₁_map (or_begins g image scope e left.1 again.1 clean files may before holds)
      (λ is. unmade_comes Taken scope taken files before holds is))
  begun_lived Taken scope taken e other again = absurd again

  -- the same, if they were opened
  unmade_lived : (Taken : Step → Type 0) (scope : Scope) → Taken (Step.making scope) → (e : StationFault)
      (old new : Files) → AreUnopened value old → MakesLeaving {g = g} image scope (Err e) old new
      → Told Taken Said.none new
  unmade_lived Taken scope taken e old new unopened (inl is) =
      no_files_told g image value (Idles image Said.none) (IsLived g image Taken Said.none) (idles Said.none silent_none)
      IsOfFiles e old new unopened is
  unmade_lived Taken scope taken e old new unopened (inr is) = begun_lived Taken scope taken e new is

  -- ---- jobs

  module _ {D : Type 0} (guard : register.Ghosts Store) (file : file.Ghosts D Store) (files_of : D → Files) where
    -- the guards of `file` are those over such files
    pub record IsOver : Type 0 where
      pub opens : (db after : D) (path : List ℕ) (found : Result Store StationFault) → file.opens db path found after
          → IfOk found (FindsGuard image)
          × OpensLeaving image found (files_of db) (files_of after)
      pub makes : (db after : D) (path : List ℕ) (scope : Scope) (found : Result Store StationFault)
          → file.makes db path scope found after
          → IfOk found (MakesGuard image scope)
          × MakesLeaving image scope found (files_of db) (files_of after)
      pub closes : (db after : D) (it : Store) (r : Result (Unit {0}) StationFault) → file.closes db it r after
          → AreLeftAs (files_of after) (EndsGuard it r)
      pub held : (s : State) → HoldsKept image s → file.held s
      pub blank : HoldsNone image → file.is_blank
      pub settles : (db : D) (it : Store) → AreLeftAs (files_of db) (AreSettled it) → file.is_settled db it
      pub has : (db : D) (it : Store) (s : State) → file.has db it s → AreLeftAs (files_of db) (HaveGuard it s)
      pub has_one : (db : D) (it : Store) (s t : State) → file.has_one db it s t
          → AreLeftAs (files_of db) (HaveOne it s t)
      pub honest : (it : Store) → HasCleanDisk (file_state it.conn) → guard.is_honest it
      pub is_clean : (it : Store) → guard.is_honest it → HasCleanDisk (file_state it.conn)

    module _ (over : IsOver) (db db' : D) (unopened : AreUnopened value (files_of db)) where
      filed : {A : Type 0} (May : JobStep → Type 0) (last : Store) (closing : Result (Unit {0}) StationFault)
          (t : State) (outcome : Result A StationFault) → LeavesFiles guard file May db' last closing t outcome
          → Filed May (files_of db') last closing t
      filed May last (Ok done) t outcome is = over.has db' last t is
      filed May last (Err e) t (Ok x) is = (t, inl refl, over.has_one db' last t t is)
      filed May last (Err e) t (Err f) is = (is.0, is.1, over.has_one db' last t is.0 is.2)

      filed_new : (it : Store) (closing : Result (Unit {0}) StationFault) (t : State)
          → LeavesFiles guard file {A = Unit {0}} OfNone db' it closing t (Ok tt) → FiledNew (files_of db') it closing t
      filed_new it (Ok done) t is = over.has db' it t is
      filed_new it (Err e) t is = over.has_one db' it t t is

      -- nothing was done after the opening
      at_once : (Taken : Step → Type 0) {o : Files} (said : Said) → files_of db' ≡ o → Told Taken said o
          → Told Taken said (files_of db')
      at_once Taken said same is = subst (λ (o : Files). Told Taken said o) (sym same) is

      ran_lived : {A : Type 0} (May : JobStep → Type 0) (Taken : Step → Type 0) → Covers May Taken
          → (Did : State → (State → Result A StationFault → Type 0) → Result A StationFault → Type 0)
          (path : List ℕ) (Nothing : Type 0) (result : Result A StationFault) (said : Said)
          → (Nothing → (p : Standing) → Backs p said)
          → ((s : State) (L : State → Result A StationFault → Type 0) (r : Result A StationFault) → IsGuard s
          → Did s L r → Lasts Taken s said L)
          → RunsIn guard file db db' path May Did Nothing result → Told Taken said (files_of db')
      ran_lived {A} May Taken covers Did path Nothing result said backs lasts is =
          by_found is.found is.is_opened is.ran
        where
          by_found : (found : Result Store StationFault) → file.opens db path found is.opened
              → Follows (RunsOver guard file db db' May Did is.opened) ((db' ≡ is.opened) × Nothing) found result
              → Told Taken said (files_of db')
          by_found (Ok first) opens ran =
              opened_lived May Taken covers (files_of db') first ran.last ran.closing said
              (over.opens db is.opened path (Ok first) opens).0
              (over.closes is.opened db' ran.last ran.closing ran.is_closed)
              (λ clean. over.is_clean first (ran.did.0 (over.honest ran.last clean)))
              (λ settled s holds.
              let did = ran.files (over.settles db' ran.last settled) s (over.held s holds) in
              let it = lasts s (LeavesFiles guard file May db' ran.last ran.closing) ran.outcome holds.0 did in
              (it.t, it.took, it.backs, filed May ran.last ran.closing it.t it.outcome it.left))
          by_found (Err e) opens ran =
              at_once Taken said (ap files_of ran.1.0)
              (unopened_lived Taken said (backs ran.1.1) e (files_of db) (files_of is.opened) unopened
              (over.opens db is.opened path (Err e) opens).1)

      made_in_lived : (Taken : Step → Type 0) (path : List ℕ) (scope : Scope) → Taken (Step.making scope)
          → (result : Result (Unit {0}) StationFault) → MakesIn guard file db db' path scope result
          → Told Taken Said.none (files_of db')
      made_in_lived Taken path scope taken result is = by_found is.found is.is_made is.ran
        where
          by_found : (found : Result Store StationFault) → file.makes db path scope found is.made
              → Follows (ClosesNew guard file db db' scope is.made) (db' ≡ is.made) found result
              → Told Taken Said.none (files_of db')
          by_found (Ok it) makes ran =
              made_lived Taken (files_of db') it result scope taken (over.makes db is.made path scope (Ok it) makes).0
              (over.closes is.made db' it result ran.is_closed)
              (λ settled holds.
              filed_new it result (opened scope) (ran.files (over.settles db' it settled) (over.blank holds)))
          by_found (Err e) makes ran =
              at_once Taken Said.none (ap files_of ran.1)
              (unmade_lived Taken scope taken e (files_of db) (files_of is.made) unopened
              (over.makes db is.made path scope (Err e) makes).1)

      same_db : (Taken : Step → Type 0) (said : Said) → ((p : Standing) → Backs p said) → db' ≡ db
          → Told Taken said (files_of db')
      same_db Taken said backs same =
          unopened_told g image value (Idles image said) (IsLived g image Taken said) (idles said backs) (files_of db')
          (ap files_of same ∙ unopened)

      module _ {E F : Type 0} (world : surroundings.Ghosts E F) (around : E) (remaining : F → Option (List ℕ)) where
        -- the key in the file
        has_key : (ca : List ℕ) (first last : ℕ) (scope : Scope)
            → BeginsAt world around remaining ca first last (Ok scope)
            → (file : F) × world.has around ca file × Begins (remaining file) first last (Ok scope)
        has_key ca first last scope (inl it) = it
        has_key ca first last scope (inr none) = absurd none

        inits_lived : (Taken : Step → Type 0) (path ca : List ℕ) (first last : ℕ)
            → ((scope : Scope) → BeginsAt world around remaining ca first last (Ok scope) → Taken (Step.making scope))
            → (held holds : Option (List ℕ)) (result : Result (Unit {0}) StationFault)
            → InitsAt world around remaining guard file db db' path ca first last held holds result
            → Told Taken Said.none (files_of db')
        inits_lived Taken path ca first last taken held holds result is = by_scope is.scope is.begins is.made
          where
            by_scope : (scope : Result Scope StationFault) → BeginsAt world around remaining ca first last scope
                → Follows (λ scope. InitsIn guard file db db' path scope held holds) ((db' ≡ db) × (holds ≡ held)) scope
                result → Told Taken Said.none (files_of db')
            by_scope (Ok scope) begins made =
                made_in_lived Taken path scope (taken scope begins) made.made made.is_made
            by_scope (Err e) begins made = same_db Taken Said.none silent_none made.1.0

        -- a job that only reads
        reads : (Taken : Step → Type 0) → Covers OfNone Taken
        reads Taken = record { asks = λ q may. absurd may; retires = λ last may. absurd may }

        abbrev MayBe : StationJob → Step → Type 0
        MayBe = MayTake world around remaining

        pub job_lived : (job : StationJob) (input held holds : Option (List ℕ))
            (result : Result (Unit {0}) StationFault)
            → DoesJob world around remaining guard file db db' job input held holds result
            → Told (MayTake world around remaining job) (said_by job held holds) (files_of db')
        job_lived (job.Init path ca first last) input held holds result is =
            inits_lived (MayBe (job.Init path ca first last)) (string_bytes path) (string_bytes ca) first last
            (has_key (string_bytes ca) first last) held holds result is
        job_lived (job.Judge j) input held holds result is = by_policy is.known is.judged
          where
            bodies : List (List ℕ)
            bodies = map string_bytes j.bodies.items

            Asked : List ℕ → Question → Type 0
            Asked = AsksGiven world around remaining (is_input bodies) (string_bytes j.policy) j.ahead

            by_policy : (known : Result (List Department) StationFault)
                → Follows
                (λ _. RunsIn guard file db db' (string_bytes j.db) (OfBodies (most_of (is_input bodies)) Asked)
                (λ s L r. JudgesGiven (is_input bodies) s L
                (AsksGiven world around remaining (is_input bodies) (string_bytes j.policy) j.ahead) bodies input held holds r
                × IfErr r (IsOfGiven (IsBadPolicyAt world around remaining (string_bytes j.policy)) (is_input bodies)))
                (holds ≡ held)) ((db' ≡ db) × (holds ≡ held)) known result
                → Told (MayBe (job.Judge j)) (Said.judging held holds) (files_of db')
            by_policy (Ok policy) ran =
                ran_lived (OfBodies (most_of (is_input bodies)) Asked) (MayBe (job.Judge j))
                (record { asks = λ qs may. may.1; retires = λ last may. absurd may })
                (λ s L r. JudgesGiven (is_input bodies) s L
                (AsksGiven world around remaining (is_input bodies) (string_bytes j.policy) j.ahead) bodies input held holds r
                × IfErr r (IsOfGiven (IsBadPolicyAt world around remaining (string_bytes j.policy)) (is_input bodies)))
                (string_bytes j.db) (holds ≡ held) result (Said.judging held holds) (silent held holds)
                (λ s L r guard did. given_last (MayBe (job.Judge j))
                (AsksGiven world around remaining (is_input bodies) (string_bytes j.policy) j.ahead) (λ path q asked. (path, asked))
                (is_input bodies) s L bodies input held holds r did.0) ran
            by_policy (Err e) ran =
                same_db (MayBe (job.Judge j)) (Said.judging held holds) (silent held holds ran.1.1) ran.1.0
        job_lived (job.Bodies path) input held holds result is =
            ran_lived OfNone (MayBe (job.Bodies path)) (reads (MayBe (job.Bodies path)))
            (λ s L r. PrintsRows s L held holds r) (string_bytes path)
            (holds ≡ held) result Said.none (λ _. silent_none)
            (λ s L r guard did. same_lasts (MayBe (job.Bodies path)) s L (Ok tt) did.stays) is
        job_lived (job.Body path serial) input held holds result is =
            ran_lived OfNone (MayBe (job.Body path serial)) (reads (MayBe (job.Body path serial)))
            (λ s L r. PrintsBody s serial held holds r × L s r) (string_bytes path)
            (holds ≡ held) result Said.none (λ _. silent_none)
            (λ s L r guard did. same_lasts (MayBe (job.Body path serial)) s L r did.1) is
        job_lived (job.Policy path) input held holds result is =
            same_db (MayBe (job.Policy path)) Said.none silent_none is.1
        job_lived (job.Retire path last) input held holds result is =
            ran_lived (OfRetiring last) (MayBe (job.Retire path last))
            (record { asks = λ q may. absurd may; retires = λ lower may. may })
            (Retires last) (string_bytes path) (Unit {0}) is.lowered Said.none
            (λ _. silent_none)
            (λ s L r guard did. retires_to_last (MayBe (job.Retire path last)) last refl s L r
            (did (last_below s.scope guard.scope))) is.is_lowered
        job_lived (job.Lists path) input held holds result is =
            same_db (MayBe (job.Lists path)) Said.none silent_none is
        job_lived (job.List words) input held holds result is =
            same_db (MayBe (job.List words)) Said.none silent_none is

        -- the job that the words name was a run
        pub words_lived : {L K : Type 0} (keeper : lister.Ghosts K) (file_of : lists.Ghosts L K) (l l' : L)
            (words : List (List ℕ)) (input held holds : Option (List ℕ)) (Tells : List ℕ → Type 0) (answered : ℕ)
            (files : Files) → files ≡ files_of db'
            → DoesWords world around remaining guard file db db' keeper file_of l l' words input held holds Tells
            answered
            → AreLived world around remaining g image value words held holds files
        words_lived keeper file_of l l' words input held holds Tells answered files same (inl is) = inl (
          is.0,
          is.2,
          subst (λ (o : Files). Told (MayTake world around remaining is.0) (said_by is.0 held holds) o) (sym same)
              (job_lived is.0 input held holds is.1 is.3),
        )
        words_lived keeper file_of l l' words input held holds Tells answered files same (inr is) =
            inr (is.0, is.1, same ∙ (ap files_of is.2 ∙ unopened))

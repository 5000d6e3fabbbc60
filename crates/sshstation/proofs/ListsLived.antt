-- A job over the files of a list guard, as a run in their lifetime.
use Rattle.std.proofs.Common.{◌≡◌, ◌⊎◌, ◌∙◌, ◌∷◌, [], ℕ, List, Option, Some, None, Result, Ok, Err, ap, arith, inl, inr}
use Rattle.std.proofs.Common.{length, map, refl, subst, sym, take}
use Rattle.std.specs.Prelude.{IfOk, string_bytes}
use Rattle.std.specs.Io.KnownBytes.{Appends}
use Rattle.std.proofs.KnownBytes.{Appends-nil}
use Rattle.std.proofs.lemmas.List.{take_all}
use Rattle.std.proofs.Math.Logic.{∥∥₁_map}
use Rattle.sqlite_disk.specs.declared.Disk.{Ghosts}
use Rattle.sqlite_wal.specs.Recovery.{Image}
use Rattle.sqlite_wal.specs.Files.{outcomes}
use Rattle.sqlite_wal.specs.Reads.{AreClean}
use Rattle.sqlite_store.specs.declared.store.FileStore.{FileStore}
use Rattle.sqlite.specs.State.{HasCleanDisk}
use Rattle.sqlite.specs.Schema.{Schema}
use Rattle.sqlite.specs.Files.{file_state}
use Rattle.lines.specs.Digests.{digest_text}
use Rattle.krl.specs.Contents.{IsPublished}
use Rattle.guard.specs.declared.register.Register as register
use Rattle.list_guard.specs.declared.judging.Answer.{Answer}
use Rattle.list_guard.specs.declared.judging.Answer.TheVariants as answer
use Rattle.list_guard.specs.declared.refusal.Refusal.TheVariants.{NotAList}
use Rattle.list_guard.specs.declared.register.ListRegister as lister
use Rattle.list_guard.specs.History.{Call, Comes}
use Rattle.list_guard.specs.Judged.{Answers, left_by}
use Rattle.list_guard.specs.Machine.{IsApproved, Question, State, opened, with_last}
use Rattle.list_guard.specs.Refusals.{refusal_name}
use Rattle.list_guard.specs.Statements.{answer_line, refused_line, statement_line}
use Rattle.list_sql.specs.declared.store.ListStore.{ListStore}
use Rattle.list_sql.specs.Keeping.{IsFilled, Keeps, Leaves}
use Rattle.list_sql.specs.Look.{is_empty}
use Rattle.list_sql.proofs.Changed.{published_some}
use Rattle.list_jobs.specs.declared.list_file.ListFile as lists
use Rattle.list_jobs.specs.Jobs.{Follows, IsRead, MakesIn, RunsIn, RunsOver}
use Rattle.list_jobs.specs.Stating.{IsPrinted, LeavesOne, Loses, States, StatesOne, Stores, stated_by}
use Rattle.files.specs.declared.ending.EndFault.TheVariants.{GivenUp, Uncopied}
use Rattle.list_sql.specs.Images.{Holds, HoldsKept, HoldsList, HoldsOneOf, Standing}
use Rattle.list_sql.specs.Lives.{AreSaid, Goes, IsTold, Said}
use Rattle.list_sql.specs.Runs.{EndsWell}
use Rattle.list_sql.proofs.Lives.{runs_on}
use Rattle.station_command.specs.declared.job.StationJob.{StationJob}
use Rattle.station_command.specs.declared.job.StationJob.TheVariants as job
use Rattle.station_jobs.specs.declared.guard_file.GuardFile as file
use Rattle.station_jobs.specs.declared.station_fault.StationFault.{StationFault}
use Rattle.station_jobs.specs.declared.surroundings.Surroundings as surroundings
use Rattle.sshstation.specs.declared.database_files.DatabaseFiles.{DatabaseFiles}
use Rattle.sshstation.specs.declared.database_files.DatabaseFiles.TheVariants as now
use Rattle.sshstation.specs.DatabaseFiles.{AreLeftAs, AreGivenBack, AreUnopened, Ended as EndedOver}
use Rattle.sshstation.specs.Doing.{DoesList, DoesWords}
use Rattle.sshstation.specs.GuardFiles.{IsOfFiles, IsOfSearch, IsWhole}
use Rattle.sshstation.specs.ListFiles.{EndsList, FindsList, MakesList}
use Rattle.sshstation.specs.Listing.{AreListed, Idles, IsListed, IsListedBy, IsSilent, Prints, PrintsNone}
use Rattle.sshstation.specs.UnopenedLists.{FindsNone, MakesLeaving, MakesNone, OpensLeaving}
use Rattle.sshstation.proofs.Unopened.{no_files_told, unopened_told}
use Rattle.sshstation.proofs.UnopenedLists.{IsOrBegins, or_begins, same_standing}

-- ---- one list

-- a published list has a byte
approved_filled : (s : State) (q : Question) → IsApproved s q → IsFilled (with_last q.list)
approved_filled s q (c, of, next) = λ none. published_some (subst IsPublished none (c, of.published))

-- an answer is a possible result of the call
comes_of : (s : State) (q : Question) (a : Answer) → Answers a s q → Comes s q (stated_by a q) (left_by a s q)
comes_of s q (answer.Approve digest version) is = (refl, (is.0.0, is.0.1, is.0.2), refl)
comes_of s q (answer.Refuse r) is = inl refl

-- the line was printed, or a beginning of it
line_told : (text : List ℕ) (held holds : Option (List ℕ)) (r : Result (Unit {0}) StationFault)
    → IsPrinted text held holds r → (count : ℕ) × Appends held holds (take count text)
line_told text held holds (Ok done) printed =
    (length text, subst (Appends held holds) (sym (take_all (length text) text (omega arith))) printed)
line_told text held holds (Err e) printed = (printed.count, printed.grown)

answer_told : (s : State) (q : Question) (a : Answer) (moment : ℕ) (held holds : Option (List ℕ))
    (r : Result (Unit {0}) StationFault) → Answers a s q → IsPrinted (answer_line a moment) held holds r
    → IsTold (stated_by a q) held holds
answer_told s q (answer.Approve digest version) moment held holds r is printed =
    let line = line_told (statement_line digest version moment) held holds r printed in (
      is.0.0,
      is.0.1.published,
      moment,
      line.0,
      subst (λ (v : ℕ). Appends held holds (take line.0 (statement_line (digest_text q.list) v moment))) is.0.3
          (subst (λ (d : List ℕ). Appends held holds (take line.0 (statement_line d version moment))) is.1 line.1),
    )
answer_told s q (answer.Refuse refusal) moment held holds r is printed =
    let line = line_told (refused_line (refusal_name refusal)) held holds r printed in (refusal, line.0, line.1)

-- nothing was printed
none_told : (held holds : Option (List ℕ)) → holds ≡ held → IsTold None held holds
none_told held holds same =
    subst (λ (h : Option (List ℕ)). IsTold None held h) (sym same) (NotAList, 0, Appends-nil held)

either : {A : Type 0} → A ⊎ A → A
either (inl a) = a
either (inr a) = a

module _ (S Dk : Type 0) (g : Ghosts Dk) (image : Image) (value : S) where
  abbrev Store : Type 0
  Store = ListStore (FileStore Dk g)

  abbrev Ended : Type 0
  Ended = EndedOver Dk

  abbrev Files : Type 0
  Files = DatabaseFiles S Dk

  -- what became of the files after a job that printed this
  abbrev Told : Said → Files → Type 0
  Told said files = AreGivenBack g image value (Idles image (IsSilent said)) (IsListed g image said) files

  -- ---- what the files hold

  -- the files hold what a run that printed this leads to
  abbrev Reaches : Standing → Said → Image → Type 0
  Reaches before said files =
      (calls : List Call) × (after : Standing) × AreSaid calls said × Goes before calls after × Holds files after

  reached : (s t : State) (q : Question) (told : Option (List ℕ)) (held holds : Option (List ℕ)) (files : Image)
      → Comes s q told t → IsTold told held holds → HoldsKept files t
      → Reaches (Some s) (Said.judging q held holds) files
  reached s t q told held holds files comes printed has =
      (record { asked = q; told = told } ∷ [], Some t, (told, refl, printed), (t, (t, comes, refl), refl), has)

  -- the connection ended, its disk was faithful, and its log was copied, or the copy wasn't begun
  record IsSettled (it : Store) (left : Ended) : Type 0 where
    ends : EndsWell it.conn left.0 left.1
    clean : AreClean g left.1.log left.1.db
    whole : IsWhole left.0

  settled_clean : (it : Store) (left : Ended) → IsSettled it left → HasCleanDisk (file_state it.conn)
  settled_clean it (Ok done, files) is = (is.ends is.clean).0.was_clean
  settled_clean it (Err (GivenUp error), files) is = (is.ends is.clean).0
  settled_clean it (Err (Uncopied error), files) is = absurd is.whole

  -- the files hold the list guard that was kept, or the other one that a crash could leave
  settled_holds : (it : Store) (left : Ended) → IsSettled it left → (s t : State) → Keeps (file_state it.conn) s
      → Leaves (file_state it.conn) s t → (files : Image) → outcomes g left.1.log left.1.db files
      → HoldsOneOf files s t
  settled_holds it (Ok done, left) is s t keeps leaves files may = ∣ inl ((is.ends is.clean).1 s keeps files may) ∣₁
  settled_holds it (Err (GivenUp error), left) is s t keeps leaves files may =
      (is.ends is.clean).1 s t leaves files may
  settled_holds it (Err (Uncopied error), left) is s t keeps leaves files may = absurd is.whole

  -- ---- a list guard that was opened

  module _ (it : Store) (left : Ended) (settled : IsSettled it left) (s : State) (q : Question)
      (held holds : Option (List ℕ)) (files : Image) (may : outcomes g left.1.log left.1.db files) where
    abbrev Came : Type 0
    Came = Reaches (Some s) (Said.judging q held holds) files

    -- the list was judged
    answered : (a : Answer) (moment : ℕ) (r : Result (Unit {0}) StationFault) → Answers a s q
        → IsPrinted (answer_line a moment) held holds r → Keeps (file_state it.conn) (left_by a s q)
        → Leaves (file_state it.conn) (left_by a s q) (left_by a s q) → ∥ Came ∥₁
    answered a moment r answers printed keeps leaves =
        let t = left_by a s q in
        ∥∥₁_map (settled_holds it left settled t t keeps leaves files may)
        (λ which. reached s t q (stated_by a q) held holds files (comes_of s q a answers)
        (answer_told s q a moment held holds r answers printed) (keeps.filled, either which))

    -- it wasn't, and the files hold what they held, or the list
    one_of : Keeps (file_state it.conn) s → IsApproved s q → holds ≡ held
        → HoldsList files s ⊎ HoldsList files (with_last q.list) → Came
    one_of keeps approved same (inl has) =
        reached s s q None held holds files (inl refl) (none_told held holds same) (keeps.filled, has)
    one_of keeps approved same (inr has) =
        reached s (with_last q.list) q None held holds files (inr (approved, refl)) (none_told held holds same)
        (approved_filled s q approved, has)

    lost : Keeps (file_state it.conn) s → LeavesOne s (Leaves (file_state it.conn)) q → holds ≡ held → ∥ Came ∥₁
    lost keeps (inl leaves) same =
        ∥∥₁_map (settled_holds it left settled s s keeps leaves files may)
        (λ which. reached s s q None held holds files (inl refl) (none_told held holds same)
        (keeps.filled, either which))
    lost keeps (inr (approved, leaves)) same =
        ∥∥₁_map (settled_holds it left settled s (with_last q.list) keeps leaves files may)
        (λ which. one_of keeps approved same which)

  opened_lived : (o : Files) (first last : Store) (closing : Result (Unit {0}) StationFault) (said : Said)
      → FindsList image first → AreLeftAs o (EndsList last closing)
      → (HasCleanDisk (file_state last.conn) → HasCleanDisk (file_state first.conn))
      → ((left : Ended) → IsSettled last left → (s : State) → (first.last ≡ s.last) × Keeps (file_state first.conn) s
      → Leaves (file_state first.conn) s s → (files : Image) → outcomes g left.1.log left.1.db files
      → ∥ Reaches (Some s) said files ∥₁)
      → Told said o
  opened_lived (now.Left left) first last closing said found ends honest did = λ clean whole.
      let settled : IsSettled last left = record { ends = ends.0; clean = clean; whole = whole } in
      runs_on image said (outcomes g left.1.log left.1.db)
      (λ files may before holds. by_standing settled files may before holds)
    where
      by_standing : IsSettled last left → (files : Image) → outcomes g left.1.log left.1.db files
          → (before : Standing) → Holds image before → ∥ Reaches before said files ∥₁
      by_standing settled files may None holds =
          let clean = honest (settled_clean last left settled) in
          absurd (found.right (found.files.blank (found.honest clean) holds))
      by_standing settled files may (Some s) holds =
          let clean = honest (settled_clean last left settled) in
          let is = found.found clean s holds.0 (found.files.held (found.honest clean) s holds.1) in
          did left settled s (is.0, is.1.keeps) is.1.crash files may
  opened_lived other first last closing said found ends honest did = absurd ends

  -- ---- a list guard that was made

  made_lived : (o : Files) (it : Store) (closing : Result (Unit {0}) StationFault) → MakesList image it
      → AreLeftAs o (EndsList it closing) → Told Said.none o
  made_lived (now.Left left) it closing made ends = λ clean whole.
      let settled : IsSettled it left = record { ends = ends.0; clean = clean; whole = whole } in
      runs_on image Said.none (outcomes g left.1.log left.1.db)
      (λ files may before holds. by_standing settled files may before holds)
    where
      by_standing : IsSettled it left → (files : Image) → outcomes g left.1.log left.1.db files
          → (before : Standing) → Holds image before → ∥ Reaches before Said.none files ∥₁
      by_standing settled files may None holds =
          let clean = settled_clean it left settled in
          let is = made.0.found clean (made.0.files.blank (made.0.honest clean) holds) in
          ∥∥₁_map (settled_holds it left settled opened opened is.keeps is.crash files may)
          (λ which.
          let reaches : Reaches None Said.none files =
          ([], Some opened, refl, (refl, inr refl), (tt, either which)) in reaches)
      by_standing settled files may (Some s) holds =
          let clean = settled_clean it left settled in
          let has = made.0.files.held (made.0.honest clean) s holds.1 in
          absurd (made.0.right (ap (λ (schema : Schema). is_empty schema) has.now.schema))
  made_lived other it closing made ends = absurd ends

  -- ---- a list guard that wasn't opened or made

  -- the files hold this still, and no list was stated
  stood : (before : Standing) (q : Question) (held holds : Option (List ℕ)) (files : Image) → holds ≡ held
      → Holds files before → Reaches before (Said.judging q held holds) files
  stood None q held holds files same has =
      (record { asked = q; told = None } ∷ [], None, (None, refl, none_told held holds same), (refl, inl refl), has)
  stood (Some s) q held holds files same has =
      reached s s q None held holds files (inl refl) (none_told held holds same) has

  -- nobody had the files
  stood_none : (before : Standing) (files : Image) → Holds files before → Reaches before Said.none files
  stood_none None files has = ([], None, refl, (refl, inl refl), has)
  stood_none (Some s) files has = ([], Some s, refl, (s, refl, refl), has)

  idles : (Silent : Type 0) → Silent → Idles image Silent
  idles Silent silent = (
    silent,
    runs_on image Said.none (λ left. left ≡ image)
        (λ files same before holds.
        ∣ stood_none before files (subst (λ (i : Image). Holds i before) (sym same) holds) ∣₁),
  )

  -- the files hold what they held
  again_lived : (q : Question) (held holds : Option (List ℕ)) → holds ≡ held → (e : StationFault) (o : Files)
      → AreLeftAs o (λ left. (left.0 ≡ Ok tt) × FindsNone g image e left.1) → Told (Said.judging q held holds) o
  again_lived q held holds same e (now.Left left) again = λ clean whole.
      runs_on image (Said.judging q held holds) (outcomes g left.1.log left.1.db)
      (λ files may before found.
      ∥∥₁_map (again.1.holds clean files may)
      (λ has. stood before q held holds files same (same_standing image files has before found)))
  again_lived q held holds same e other again = absurd again

  -- the same, if they were opened
  unopened_lived : (q : Question) (held holds : Option (List ℕ)) → holds ≡ held → (e : StationFault) (old new : Files)
      → AreUnopened value old → OpensLeaving {g = g} image (Err e) old new → Told (Said.judging q held holds) new
  unopened_lived q held holds same e old new unopened (inl is) =
      no_files_told g image value (Idles image (holds ≡ held)) (IsListed g image (Said.judging q held holds))
      (idles (holds ≡ held) same) IsOfSearch e old new unopened is
  unopened_lived q held holds same e old new unopened (inr again) =
      again_lived q held holds same e new again

  unmade : (before : Standing) (files : Image) → IsOrBegins files before → Reaches before Said.none files
  unmade None files (inl has) = stood_none None files has
  unmade None files (inr new) = ([], Some opened, refl, (refl, inr refl), new.1)
  unmade (Some s) files (inl has) = stood_none (Some s) files has
  unmade (Some s) files (inr new) = let no = new.0 in absurd cc

  -- the files hold what they held, or the new list guard in place of none
  begun_lived : (e : StationFault) (o : Files)
      → AreLeftAs o (λ left. (left.0 ≡ Ok tt) × MakesNone g image e left.1) → Told Said.none o
  begun_lived e (now.Left left) again = λ clean whole.
      runs_on image Said.none (outcomes g left.1.log left.1.db)
      (λ files may before found.
      ∥∥₁_map (or_begins g image e left.1 again.1 clean files may before found) (λ is. unmade before files is))
  begun_lived e other again = absurd again

  -- the same, if they were opened
  unmade_lived : (e : StationFault) (old new : Files) → AreUnopened value old
      → MakesLeaving {g = g} image (Err e) old new → Told Said.none new
  unmade_lived e old new unopened (inl is) =
      no_files_told g image value (Idles image (Unit {0})) (IsListed g image Said.none) (idles (Unit {0}) tt) IsOfFiles e
      old new unopened is
  unmade_lived e old new unopened (inr again) = begun_lived e new again

  -- ---- jobs

  module _ {L : Type 0} (keeper : lister.Ghosts Store) (lists_file : lists.Ghosts L Store) (files_of : L → Files) where
    -- the list guard of the file is one of such files
    pub record IsOver : Type 0 where
      pub opens : (db after : L) (path : List ℕ) (found : Result Store StationFault)
          → lists_file.opens db path found after
          → IfOk found (FindsList image)
          × OpensLeaving image found (files_of db) (files_of after)
      pub makes : (db after : L) (path : List ℕ) (found : Result Store StationFault)
          → lists_file.makes db path found after
          → IfOk found (MakesList image)
          × MakesLeaving image found (files_of db) (files_of after)
      pub closes : (db after : L) (it : Store) (r : Result (Unit {0}) StationFault) → lists_file.closes db it r after
          → AreLeftAs (files_of after) (EndsList it r)
      pub stores : (it : Store) (s : State) → (it.last ≡ s.last) × Keeps (file_state it.conn) s
          → Leaves (file_state it.conn) s s → Stores keeper it s
      pub keeps : (it : Store) (s : State) → keeper.keeps it s → Keeps (file_state it.conn) s
      pub leaves : (it : Store) (s t : State) → keeper.leaves it s t → Leaves (file_state it.conn) s t
      pub honest : (it : Store) → HasCleanDisk (file_state it.conn) → keeper.is_honest it
      pub is_clean : (it : Store) → keeper.is_honest it → HasCleanDisk (file_state it.conn)

    module _ (over : IsOver) (db db' : L) (unopened : AreUnopened value (files_of db)) where
      -- what became of the files, if they were opened and this holds of how they are left, or nobody had them
      abbrev ToldBy : (Silent : Type 0) → (Ended → Type 0) → Files → Type 0
      ToldBy Silent Is files = AreGivenBack g image value (Idles image Silent) Is files

      untouched : (Silent : Type 0) (Is : Ended → Type 0) → Silent → db' ≡ db → ToldBy Silent Is (files_of db')
      untouched Silent Is silent same =
          unopened_told g image value (Idles image Silent) Is (idles Silent silent) (files_of db')
          (ap files_of same ∙ unopened)

      -- nothing was done after the opening
      at_once : (said : Said) {o : Files} → files_of db' ≡ o → Told said o → Told said (files_of db')
      at_once said same is = subst (λ (o : Files). Told said o) (sym same) is

      leaves_one : (it : Store) (s : State) (q : Question) → LeavesOne s (keeper.leaves it) q
          → LeavesOne s (Leaves (file_state it.conn)) q
      leaves_one it s q (inl leaves) = inl (over.leaves it s s leaves)
      leaves_one it s q (inr (approved, leaves)) = inr (approved, over.leaves it s (with_last q.list) leaves)

      made_listed : (path : List ℕ) (result : Result (Unit {0}) StationFault)
          → MakesIn lists_file db db' path result → Told Said.none (files_of db')
      made_listed path result is = by_found is.found is.is_made is.ran
        where
          by_found : (found : Result Store StationFault) → lists_file.makes db path found is.opened
              → Follows (λ it r. lists_file.closes is.opened it r db') (db' ≡ is.opened) found result
              → Told Said.none (files_of db')
          by_found (Ok it) makes ran =
              made_lived (files_of db') it result (over.makes db is.opened path (Ok it) makes).0
              (over.closes is.opened db' it result ran)
          by_found (Err e) makes ran =
              at_once Said.none (ap files_of ran.1)
              (unmade_lived e (files_of db) (files_of is.opened) unopened
              (over.makes db is.opened path (Err e) makes).1)

      module _ {E F : Type 0} (world : surroundings.Ghosts E F) (around : E) where
        -- a list was judged over a list guard, and this is what the files hold
        came : (first last : Store) (q : Question) (held holds : Option (List ℕ))
            (outcome : Result (Unit {0}) StationFault) → States world around keeper q held holds first last outcome
            → (left : Ended) → IsSettled last left → (s : State)
            → (first.last ≡ s.last) × Keeps (file_state first.conn) s → Leaves (file_state first.conn) s s
            → (files : Image) → outcomes g left.1.log left.1.db files
            → ∥ Reaches (Some s) (Said.judging q held holds) files ∥₁
        came first last q held holds outcome did left settled s keeps leaves files may =
            let honest = over.honest last (settled_clean last left settled) in
            let stores = over.stores first s keeps leaves in
            by_states (did.states honest s stores) (leaves_one last s q (did.crash honest s stores))
          where
            by_states : StatesOne s (λ _ t. Stores keeper last t) (Loses keeper last s q) (world.shows around) q held
                holds outcome → LeavesOne s (Leaves (file_state last.conn)) q
                → ∥ Reaches (Some s) (Said.judging q held holds) files ∥₁
            by_states (inl is) crash =
                let t = left_by is.answer s q in
                answered last left settled s q held holds files may is.answer is.moment outcome is.answers is.printed
                (over.keeps last t is.left.0) (over.leaves last t t is.left.1)
            by_states (inr (e, failed, loses, same)) crash =
                lost last left settled s q held holds files may (over.keeps last s loses.0) crash same

        ran_listed : (path : List ℕ) (q : Question) (held holds : Option (List ℕ))
            (result : Result (Unit {0}) StationFault)
            → RunsIn lists_file db db' path (States world around keeper q held holds) (holds ≡ held) result
            → Told (Said.judging q held holds) (files_of db')
        ran_listed path q held holds result is = by_found is.found is.is_opened is.ran
          where
            by_found : (found : Result Store StationFault) → lists_file.opens db path found is.opened
                → Follows (RunsOver lists_file db db' path (States world around keeper q held holds) is.opened)
                ((db' ≡ is.opened) × (holds ≡ held)) found result
                → Told (Said.judging q held holds) (files_of db')
            by_found (Ok first) opens ran =
                opened_lived (files_of db') first ran.last ran.closing (Said.judging q held holds)
                (over.opens db is.opened path (Ok first) opens).0
                (over.closes is.opened db' ran.last ran.closing ran.is_closed)
                (λ clean. over.is_clean first (ran.did.honest (over.honest ran.last clean)))
                (came first ran.last q held holds ran.outcome ran.did)
            by_found (Err e) opens ran =
                at_once (Said.judging q held holds) (ap files_of ran.1.0)
                (unopened_lived q held holds ran.1.1 e (files_of db) (files_of is.opened) unopened
                (over.opens db is.opened path (Err e) opens).1)

        module _ (remaining : F → Option (List ℕ)) where
          abbrev By : StationJob → (held holds : Option (List ℕ)) → Ended → Type 0
          By job held holds = IsListedBy world around remaining g image job held holds

          -- what became of the files by this job
          abbrev ToldOf : StationJob → (held holds : Option (List ℕ)) → Files → Type 0
          ToldOf job held holds o = ToldBy (PrintsNone job held holds) (By job held holds) o

          silent_of : (job : StationJob) (held holds : Option (List ℕ)) (said : Said)
              → Prints world around remaining job held holds said → IsSilent said → PrintsNone job held holds
          silent_of (job.List words) held holds said prints silent = subst IsSilent prints.2 silent
          silent_of other held holds said prints silent = tt

          prints_listed : (o : Files) (job : StationJob) (held holds : Option (List ℕ)) (said : Said)
              → Prints world around remaining job held holds said → Told said o → ToldOf job held holds o
          prints_listed (now.Unopened still) job held holds said prints is =
              (is.0, (silent_of job held holds said prints is.1.0, is.1.1))
          prints_listed now.Connected job held holds said prints is = is
          prints_listed (now.Failed fault) job held holds said prints is = (
            is.0,
            λ none. let idle = is.1 none in (silent_of job held holds said prints idle.0, idle.1),
          )
          prints_listed (now.Left left) job held holds said prints is = (said, prints, is)

          module _ {D G : Type 0} (guard : register.Ghosts G) (file : file.Ghosts D G) (before after : D) where
            job_listed : (job : StationJob) (held holds : Option (List ℕ)) (result : Result (Unit {0}) StationFault)
                → DoesList world around remaining guard file before after keeper lists_file db db' job held
                holds result → ToldOf job held holds (files_of db')
            job_listed (job.Lists path) held holds result is =
                prints_listed (files_of db') (job.Lists path) held holds Said.none refl
                (made_listed (string_bytes path) is.made is.is_made)
            job_listed (job.List words) held holds result is = by_asked is.asked is.read is.judged
              where
                by_asked : (asked : Result Question StationFault)
                    → IsRead world around remaining (map string_bytes words.cas.items) words.begins
                    (string_bytes words.list) asked
                    → Follows
                    (λ q. RunsIn lists_file db db' (string_bytes words.db) (States world around keeper q held holds)
                    (holds ≡ held)) ((db' ≡ db) × (holds ≡ held)) asked result
                    → ToldOf (job.List words) held holds (files_of db')
                by_asked (Ok q) read ran =
                    prints_listed (files_of db') (job.List words) held holds (Said.judging q held holds)
                    (q, read, refl) (ran_listed (string_bytes words.db) q held holds result ran)
                by_asked (Err e) read ran =
                    untouched (holds ≡ held) (By (job.List words) held holds) ran.1.1 ran.1.0
            job_listed (job.Init path ca first last) held holds result is =
                untouched (Unit {0}) (By (job.Init path ca first last) held holds) tt is
            job_listed (job.Judge words) held holds result is =
                untouched (Unit {0}) (By (job.Judge words) held holds) tt is
            job_listed (job.Bodies path) held holds result is =
                untouched (Unit {0}) (By (job.Bodies path) held holds) tt is
            job_listed (job.Body path serial) held holds result is =
                untouched (Unit {0}) (By (job.Body path serial) held holds) tt is
            job_listed (job.Policy path) held holds result is =
                untouched (Unit {0}) (By (job.Policy path) held holds) tt is
            job_listed (job.Retire path last) held holds result is =
                untouched (Unit {0}) (By (job.Retire path last) held holds) tt is

            -- the words' job was a run
            pub words_listed : (words : List (List ℕ)) (input held holds : Option (List ℕ)) (Taken : List ℕ → Type 0)
                (answered : ℕ) (files : Files) → files ≡ files_of db'
                → DoesWords world around remaining guard file before after keeper lists_file db db' words input
                held holds Taken answered → AreListed world around remaining g image value words held holds files
            words_listed words input held holds Taken answered files same (inl is) = inl (
              is.0,
              is.2,
              subst (λ (o : Files). ToldOf is.0 held holds o) (sym same)
                  (job_listed is.0 held holds is.1 is.4),
            )
            words_listed words input held holds Taken answered files same (inr is) =
                inr (is.0, is.1, same ∙ (ap files_of is.3 ∙ unopened))

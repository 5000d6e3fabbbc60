-- From the guard that files held before a job to the one that they hold after it.
use Rattle.std.proofs.Common.{◌≡◌, ℕ, List, Bool, true, false, Option, Result, Ok, Err}
use Rattle.std.specs.List.{flat_map}
use Rattle.guard.specs.declared.register.Register as register
use Rattle.guard.specs.declared.scope.Scope.{Scope}
use Rattle.guard.specs.Machine.{State, Question, opened}
use Rattle.guard.specs.Retiring.{with_last}
use Rattle.station_jobs.specs.declared.guard_file.GuardFile as file
use Rattle.station_jobs.specs.declared.station_fault.StationFault.{StationFault}
use Rattle.station_jobs.specs.declared.station_fault.StationFault.TheVariants.{BadSerials, SerialApproved}
use Rattle.station_jobs.specs.Bodies.{PrintsRows}
use Rattle.station_jobs.specs.Leaving.{Leaves, OfNone, Step}
use Rattle.station_jobs.specs.Reported.{PassesOn}
use Rattle.station_jobs.specs.Whole.{ClosesNew, Does, JudgesGiven, KeepsFiles, LeavesFiles, Retires, RetiresTo, RunsIn}
use Rattle.station_jobs.specs.Whole.{closed}
use Rattle.station_jobs.proofs.Judgements.{judged_so}

module _ {D G : Type 0} (guard : register.Ghosts G) (file : file.Ghosts D G) (keeps : KeepsFiles guard file) where
  -- what is left of an open guard is left in its files
  leaves_files : {A : Type 0} {May : Step → Type 0} (db db' : D) (first last : G) (s t : State)
      (outcome : Result A StationFault)
      (closing : Result (Unit {0}) StationFault) → file.closes db last closing db' → file.is_settled db' last
      → guard.leaves first s s → Leaves guard May first last s t outcome
      → LeavesFiles guard file May db' last closing t outcome
  leaves_files db db' first last s t outcome (Ok done) closes settled left is =
      keeps.closes db db' last closes settled t is.kept
  leaves_files db db' first last s t (Ok x) (Err e) closes settled left is =
      keeps.gives_up db db' last e closes settled t t is.kept (is.lasts left)
  leaves_files db db' first last s t (Err f) (Err e) closes settled left is =
      let lasts = is.lasts left in
      (lasts.0, lasts.1, keeps.gives_up db db' last e closes settled t lasts.0 is.kept lasts.2)

  -- what was done over the guard was done over its files
  runs_over : {A : Type 0} (May : Step → Type 0)
      (Did : State → (Left : State → Result A StationFault → Type 0) → Result A StationFault → Type 0)
      → ((s : State) (Left Left' : State → Result A StationFault → Type 0) (r : Result A StationFault)
      → ((t : State) (r : Result A StationFault) → Left t r → Left' t r) → Did s Left r → Did s Left' r)
      → (before opened db' : D) (path : List ℕ) (first last : G) (outcome : Result A StationFault)
      (closing : Result (Unit {0}) StationFault) → file.opens before path (Ok first) opened
      → Does guard May Did first last outcome → file.closes opened last closing db'
      → file.is_settled db' last → (s : State) → file.held s →
      Did s (LeavesFiles guard file May db' last closing) outcome
  runs_over May Did grows before opened db' path first last outcome closing opens did closes settled s held =
      let honest = keeps.honest opened db' last closing closes settled in
      let found = keeps.opens before opened path first opens (did.0 honest) s held in
      grows s (Leaves guard May first last s) (LeavesFiles guard file May db' last closing) outcome
      (λ t r is. leaves_files opened db' first last s t r closing closes settled found.1 is)
      (did.1 honest s found.0)

  pub ran_in : {A : Type 0} (May : Step → Type 0)
      (Did : State → (Left : State → Result A StationFault → Type 0) → Result A StationFault → Type 0)
      → ((s : State) (Left Left' : State → Result A StationFault → Type 0) (r : Result A StationFault)
      → ((t : State) (r : Result A StationFault) → Left t r → Left' t r) → Did s Left r → Did s Left' r)
      → (Nothing : Type 0) (before opened db' : D) (path : List ℕ) (first last : G) (outcome : Result A StationFault)
      (closing : Result (Unit {0}) StationFault) (result : Result A StationFault) → file.opens before path (Ok first) opened
      → Does guard May Did first last outcome → PassesOn (guard.reported first) (guard.reported last) outcome
      → file.closes opened last closing db' → result ≡ closed outcome closing
      → RunsIn guard file before db' path May Did Nothing result
  ran_in May Did grows Nothing before opened db' path first last outcome closing result opens did reported closes came =
      record {
        found = Ok first;
        opened = opened;
        is_opened = opens;
        ran = record {
          outcome = outcome;
          last = last;
          did = did;
          reported = reported;
          closing = closing;
          is_closed = closes;
          came = came;
          files = runs_over May Did grows before opened db' path first last outcome closing opens did closes;
        };
      }

  -- a guard that was made is in its files
  pub closes_new : (before made db' : D) (path : List ℕ) (scope : Scope) (g : G) (closing : Result (Unit {0}) StationFault)
      → file.makes before path scope (Ok g) made → file.closes made g closing db'
      → ClosesNew guard file before db' scope made g closing
  closes_new before made db' path scope g closing makes closes = record {
    is_closed = closes;
    files = λ settled blank.
        let stores = keeps.makes before made path scope g makes (keeps.honest made db' g closing closes settled) blank in
        filed stores closing closes settled;
  }
    where
      filed : guard.keeps g (opened scope) × guard.leaves g (opened scope) (opened scope)
          → (r : Result (Unit {0}) StationFault) → file.closes made g r db' → file.is_settled db' g
          → LeavesFiles guard file {A = Unit {0}} OfNone db' g r (opened scope) (Ok tt)
      filed stores (Ok done) closes settled = keeps.closes made db' g closes settled (opened scope) stores.0
      filed stores (Err e) closes settled =
          keeps.gives_up made db' g e closes settled (opened scope) (opened scope) stores.0 stores.1

-- ---- what a job does, with a weaker statement about what is left

pub given_so : (b : Bool) (s : State) (Left Left' : State → Result (Unit {0}) StationFault → Type 0)
    (Asked : List ℕ → Question → Type 0) (bodies : List (List ℕ)) (input held holds : Option (List ℕ))
    (r : Result (Unit {0}) StationFault)
    → ((t : State) (r : Result (Unit {0}) StationFault) → Left t r → Left' t r)
    → JudgesGiven b s Left Asked bodies input held holds r → JudgesGiven b s Left' Asked bodies input held holds r
given_so true s Left Left' Asked bodies input held holds r leads is = record {
  batches = is.batches;
  are = is.are;
  judges = judged_so Left Left' Asked s (flat_map (λ bodies. bodies) is.batches) held holds r (λ t left. leads t r left)
      is.judges;
}
given_so false s Left Left' Asked bodies input held holds r leads is =
    judged_so Left Left' Asked s bodies held holds r (λ t left. leads t r left) is

pub rows_so : (s : State) (Left Left' : State → Result (Unit {0}) StationFault → Type 0) (held holds : Option (List ℕ))
    (r : Result (Unit {0}) StationFault) → ((t : State) (r : Result (Unit {0}) StationFault) → Left t r → Left' t r)
    → PrintsRows s Left held holds r → PrintsRows s Left' held holds r
rows_so s Left Left' held holds r leads is = record {
  lists = is.lists;
  stays = leads s (Ok tt) is.stays;
  only = is.only;
  cause = λ are. leads s r (is.cause are);
}

retires_to : (last : ℕ) (s : State) (Left Left' : State → Type 0) (r : Result ℕ StationFault)
    → ((t : State) → Left t → Left' t) → RetiresTo last s Left r → RetiresTo last s Left' r
retires_to last s Left Left' (Ok first) leads is = (is.0, leads (with_last s last) is.1, is.2)
retires_to last s Left Left' (Err BadSerials) leads is = (is.0, leads s is.1)
retires_to last s Left Left' (Err SerialApproved) leads is = (is.0, leads s is.1)
retires_to last s Left Left' (Err other) leads is = (is.0, leads s is.1)

pub retires_so : (last : ℕ) (s : State) (Left Left' : State → Result ℕ StationFault → Type 0) (r : Result ℕ StationFault)
    → ((t : State) (r : Result ℕ StationFault) → Left t r → Left' t r) → Retires last s Left r → Retires last s Left' r
retires_so last s Left Left' r leads is =
    λ low. retires_to last s (λ t. Left t r) (λ t. Left' t r) r (λ t left. leads t r left) (is low)

-- The lifetime of a guard's files, run after run.
use Rattle.std.proofs.Common.{◌≡◌, ◌++◌, ◌∷◌, [], ℕ, All, Bool, List, Some, None, cond}
use Rattle.std.proofs.Common.{false, inl, refl, subst, sym, true}
use Rattle.std.specs.Prelude.{find, fold, ◌==◌}
use Rattle.std.specs.Option.{option_map}
use Rattle.std.proofs.Math.Logic.{∥∥₁_map}
use Rattle.std.proofs.lemmas.List.Elements.{All-cons, All-nil, All-weaker}
use Rattle.std.proofs.lemmas.List.Sums.{fold-append}
use Rattle.sqlite_wal.specs.Recovery.{Image}
use Rattle.guard.specs.declared.approved.Approved.{Approved}
use Rattle.guard.specs.declared.judging.Answer.{Answer}
use Rattle.guard.specs.declared.judging.Answer.TheVariants as answer
use Rattle.guard.specs.History.{IsStill}
use Rattle.guard.specs.State.{State, body_of}
use Rattle.guard_sql.specs.Images.{Holds, Standing}
use Rattle.guard_sql.specs.Lives.{Answered, Backs, BacksAll, Follow, IsBacked, IsRun, Life, LivesKeep, Run}
use Rattle.guard_sql.specs.Lives.{RunsGoOn, Said, after_run, body_in, guard_of, steps_of}
use Rattle.guard_sql.specs.Runs.{AreRuns, RunsOn}
use Rattle.guard_sql.specs.Steps.{Step, next_guard, stepped}
use Rattle.guard_sql.proofs.Steps.{guard_still, later_all}

-- ---- an approved body stays approved

found_still : (p : Approved → Bool) (xs ys : List Approved) (b : List ℕ)
    → option_map (λ (a : Approved). a.body) (find p xs) ≡ Some b
    → option_map (λ (a : Approved). a.body) (find p (xs ++ ys)) ≡ Some b
found_still p [] ys b is = absurd cc
found_still p (x ∷ xs) ys b is = by_test (found_still p xs ys b) (p x) is
  where
    by_test : (option_map (λ (a : Approved). a.body) (find p xs) ≡ Some b
        → option_map (λ (a : Approved). a.body) (find p (xs ++ ys)) ≡ Some b)
        → (t : Bool) → option_map (λ (a : Approved). a.body) (cond t (Some x) (find p xs)) ≡ Some b
        → option_map (λ (a : Approved). a.body) (cond t (Some x) (find p (xs ++ ys))) ≡ Some b
    by_test later true is = is
    by_test later false is = later is

body_still : (s t : State) (serial : ℕ) (b : List ℕ) → IsStill s t → body_of s serial ≡ Some b
    → body_of t serial ≡ Some b
body_still s t serial b still is =
    subst
    (λ (rows : List Approved). option_map (λ (a : Approved). a.body) (find (λ a. a.serial == serial) rows) ≡ Some b)
    (sym still.1) (found_still (λ a. a.serial == serial) s.approved still.0 b is)

body_later : (p : Standing) (steps : List Step) (serial : ℕ) (b : List ℕ) → body_in p serial ≡ Some b
    → body_in (fold next_guard p steps) serial ≡ Some b
body_later None steps serial b is = absurd cc
body_later (Some s) steps serial b is =
    let later = later_all s steps in
    subst (λ (q : Standing). body_in q serial ≡ Some b) (sym (guard_still s steps))
    (body_still s (fold stepped s steps) serial b (later.rows, later.approved) is)

backed_later : (p : Standing) (steps : List Step) (a : Answer) (b : List ℕ) → IsBacked p a b
    → IsBacked (fold next_guard p steps) a b
backed_later p steps (answer.Sign serial digest) b is = (body_later p steps serial b is.0, is.1)
backed_later p steps (answer.NotABody e) b is = tt
backed_later p steps (answer.Refuse r) b is = tt

-- what was printed of bodies stays true, whatever steps come later
pub said_later : (p : Standing) (steps : List Step) (said : Said) → Backs p said → Backs (fold next_guard p steps) said
said_later p steps said is = (
  is.0,
  is.1,
  All-weaker (λ (a : Answered). IsBacked p a.0 a.1) (λ (a : Answered). IsBacked (fold next_guard p steps) a.0 a.1)
      (λ a h. backed_later p steps a.0 a.1 h) is.0 is.2,
)

-- ---- runs

-- the guard that the runs leave, from the one that the files held before
abbrev after_runs : Standing → List Run → Standing
after_runs before runs = fold next_guard before (steps_of runs)

record Kept (before : Standing) (runs : List Run) (last : Image) : Type 0 where
  holds : Holds last (after_runs before runs)
  backs : All (λ run. Backs (after_runs before runs) run.said) runs

-- the guard after a run and others
then_runs : (before : Standing) (run : Run) (runs : List Run)
    → after_runs before (run ∷ runs) ≡ after_runs (after_run before run) runs
then_runs before run runs = fold-append next_guard before run.steps (steps_of runs)

one_more : (before : Standing) (run : Run) (runs : List Run) (last : Image) → IsRun before run
    → Kept (after_run before run) runs last → Kept before (run ∷ runs) last
one_more before run runs last is rest =
    let first : Backs (after_runs (after_run before run) runs) run.said =
    said_later (after_run before run) (steps_of runs) run.said is.backs in
    record {
      holds = subst (Holds last) (sym (then_runs before run runs)) rest.holds;
      backs = subst (λ (p : Standing). All (λ (r : Run). Backs p r.said) (run ∷ runs)) (sym (then_runs before run runs))
          (All-cons (λ (r : Run). Backs (after_runs (after_run before run) runs) r.said) run runs first rest.backs);
    }

-- what the files hold after runs, from the guard that they held before
runs_keep : (runs : List Run) (first last : Image) (before : Standing) → Follow first before runs last
    → Holds first before → Kept before runs last
runs_keep [] first last before same holds = record {
  holds = subst (λ (image : Image). Holds image before) (sym same) holds;
  backs = All-nil (λ (run : Run). Backs before run.said);
}
runs_keep (run ∷ runs) first last before follow holds =
    one_more before run runs last follow.1
    (runs_keep runs run.left last (after_run before run) follow.2 follow.1.left)

pub lives_keep : LivesKeep
lives_keep runs last life =
    let kept = runs_keep runs life.first last None life.follow (inl (inl (inl life.empty))) in
    record { holds = kept.holds; backs = kept.backs }

-- one run after a sequence of runs
follow_then : (runs : List Run) (run : Run) (first : Image) (before : Standing) → Follow first before runs run.found
    → IsRun (after_runs before runs) run → Follow first before (runs ++ run ∷ []) run.left
follow_then [] run first before same is = (same, is, refl)
follow_then (other ∷ runs) run first before follow is = (
  follow.0,
  follow.1,
  follow_then runs run other.left (after_run before other) follow.2
      (subst (λ (p : Standing). IsRun p run) (then_runs before other runs) is),
)

pub runs_go_on : RunsGoOn
runs_go_on runs run life is = record {
  first = life.first;
  empty = life.empty;
  follow = follow_then runs run life.first None life.follow is;
}

-- a run of the program extends each lifetime
module _ (image : Image) (May : Step → Type 0) (said : Said) where
  abbrev run_of : Image → List Step → Run
  run_of left steps = record { found = image; steps = steps; said = said; left = left }

  abbrev Extended : Image → List Run → Type 0
  Extended left runs =
      (steps : List Step) × All May steps
      × (Life (runs ++ run_of left steps ∷ []) left × BacksAll (runs ++ run_of left steps ∷ []) left)

  extended : (left : Image) (runs : List Run) → Life runs image → (steps : List Step) → All May steps
      → IsRun (guard_of runs) (run_of left steps) → Extended left runs
  extended left runs life steps all is =
      let longer = runs_go_on runs (run_of left steps) life is in
      (steps, all, (longer, lives_keep (runs ++ run_of left steps ∷ []) left longer))

  pub runs_on : (may_leave : Image → Type 0) → AreRuns image May said may_leave → RunsOn image May said may_leave
  runs_on may_leave are = record {
    runs = are;
    goes_on = λ left may runs life.
        ∥∥₁_map (are left may (guard_of runs) (lives_keep runs image life).holds)
        (λ it. extended left runs life it.0 it.1 it.2);
  }

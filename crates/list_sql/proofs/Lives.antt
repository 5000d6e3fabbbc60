-- The lists that are stated over every sequence of runs.
use Rattle.std.proofs.Common.{◌≡◌, ◌++◌, ◌∷◌, ◌∙◌, [], ℕ, List, Option, Some, None, ap, inl, inr, refl}
use Rattle.std.proofs.Common.{subst, sym}
use Rattle.std.proofs.Math.Logic.{∥∥₁_elim, ∥∥₁_map}
use Rattle.sqlite_wal.specs.Recovery.{Image}
use Rattle.list_guard.specs.State.{State, opened}
use Rattle.list_guard.specs.History.{Call, Grow, Lives, before, stated}
use Rattle.list_guard.proofs.ListLaws.{live}
use Rattle.list_sql.specs.Images.{Holds, HoldsKept}
use Rattle.list_sql.specs.Lives.{AreSaid, AreSaidBy, Follow, GrowFrom, IsRun, LivesGrow, Run, RunsGoOn, Said}
use Rattle.list_sql.specs.Runs.{AreRuns, RunsOn}

-- ---- calls after calls

lives_append : (a b : List Call) (s t u : State) → Lives s a t → Lives t b u → Lives s (a ++ b) u
lives_append [] b s t u first second = subst (λ (x : State). Lives x b u) first second
lives_append (call ∷ a) b s t u (next, comes, first) second = (next, comes, lives_append a b next t u first second)

before_append : (told : Option (List ℕ)) (x y : List (List ℕ)) → before told (x ++ y) ≡ before told x ++ y
before_append None x y = refl
before_append (Some list) x y = refl

stated_append : (a b : List Call) → stated (a ++ b) ≡ stated a ++ stated b
stated_append [] b = refl
stated_append (call ∷ a) b =
    ap (before call.told) (stated_append a b) ∙ before_append call.told (stated a) (stated b)

-- ---- runs over a list guard are calls on the reference model

-- The calls of these runs. Those on the model, from this state, state the same lists.
record AreCalls (s : State) (runs : List Run) : Type 0 where
  calls : List Call
  said : AreSaidBy calls runs
  model : List Call
  t : State
  lives : Lives s model t
  same : stated model ≡ stated calls

-- a run over a list guard, and those after it
more_calls : (s t : State) (run : Run) (runs : List Run) (calls : List Call) → AreSaid calls run.said → Lives s calls t
    → AreCalls t runs → AreCalls s (run ∷ runs)
more_calls s t run runs calls said lives later = record {
  calls = calls ++ later.calls;
  said = (calls, later.calls, refl, said, later.said);
  model = calls ++ later.model;
  t = later.t;
  lives = lives_append calls later.model s t later.t lives later.lives;
  same = stated_append calls later.model ∙ ap (λ (lists : List (List ℕ)). stated calls ++ lists) later.same
      ∙ sym (stated_append calls later.calls);
}

-- a run that stated no list, and those after it
none_before : (s : State) (run : Run) (runs : List Run) (calls : List Call) → AreSaid calls run.said
    → stated calls ≡ [] → AreCalls s runs → AreCalls s (run ∷ runs)
none_before s run runs calls said none later = record {
  calls = calls ++ later.calls;
  said = (calls, later.calls, refl, said, later.said);
  model = later.model;
  t = later.t;
  lives = later.lives;
  same = later.same ∙ ap (λ (lists : List (List ℕ)). lists ++ stated later.calls) (sym none)
      ∙ sym (stated_append calls later.calls);
}

over : (runs : List Run) (first last : Image) (s : State) → HoldsKept first s → Follow first runs last
    → ∥ AreCalls s runs ∥₁
over [] first last s held same = ∣ record { calls = []; said = refl; model = []; t = s; lives = refl; same = refl } ∣₁
over (run ∷ runs) first last s held (is, found, rest) =
    ∥∥₁_elim (is (Some s) (subst (λ (image : Image). HoldsKept image s) (sym found) held)) squash₁
    (λ one. let t = one.3.0 in
    ∥∥₁_map (over runs run.left last t (subst (Holds run.left) one.3.2 one.4) rest)
    (λ later. more_calls s t run runs one.0 one.2 one.3.1 later))

-- ---- before there is a list guard, no list is stated

from_none : (runs : List Run) (first last : Image) → Holds first None → Follow first runs last
    → ∥ AreCalls opened runs ∥₁
from_none [] first last held same =
    ∣ record { calls = []; said = refl; model = []; t = opened; lives = refl; same = refl } ∣₁
from_none (run ∷ runs) first last held (is, found, rest) =
    ∥∥₁_elim (is None (subst (λ (image : Image). Holds image None) (sym found) held)) squash₁
    (λ one.
    let more : ∥ AreCalls opened runs ∥₁ = elim one.3.1 [
      | inl still ↦ from_none runs run.left last (subst (Holds run.left) still one.4) rest
      | inr made ↦ over runs run.left last opened (subst (Holds run.left) made one.4) rest
    ] in
    ∥∥₁_map more (λ later. none_before opened run runs one.0 one.2 one.3.0 later))

-- ---- so they grow

pub lives_grow : LivesGrow
lives_grow first last runs None held follow =
    ∥∥₁_map (from_none runs first last held follow)
    (λ is.
    let grown : (calls : List Call) × AreSaidBy calls runs × GrowFrom None (stated calls) =
    (is.calls, is.said, subst Grow is.same (live is.model opened is.t is.lives).1) in grown)
lives_grow first last runs (Some s) held follow =
    ∥∥₁_map (over runs first last s held follow)
    (λ is.
    let grown : (calls : List Call) × AreSaidBy calls runs × GrowFrom (Some s) (stated calls) =
    (is.calls, is.said, subst (GrowFrom (Some s)) is.same (live is.model s is.t is.lives)) in grown)

-- ---- one further run

follow_then : (runs : List Run) (run : Run) (first : Image) → Follow first runs run.found → IsRun run
    → Follow first (runs ++ run ∷ []) run.left
follow_then [] run first same is = (is, same, refl)
follow_then (other ∷ runs) run first follow is = (follow.0, follow.1, follow_then runs run other.left follow.2 is)

pub runs_go_on : RunsGoOn
runs_go_on run is first runs before held follow =
    let longer : Follow first (runs ++ run ∷ []) run.left = follow_then runs run first follow is in
    (longer, lives_grow first run.left (runs ++ run ∷ []) before held longer)

pub runs_on : (image : Image) (said : Said) (may_leave : Image → Type 0) → AreRuns image said may_leave
    → RunsOn image said may_leave
runs_on image said may_leave runs = record {
  runs = runs;
  goes_on = λ left may. runs_go_on (record { found = image; said = said; left = left }) (runs left may);
}

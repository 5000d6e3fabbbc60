-- Lifetimes of the files, run after run.
use Rattle.std.proofs.Common.{List, [], ◌∷◌, ◌++◌, None, inl, refl, sym, subst}
use Rattle.std.proofs.Math.Logic.{∥∥₁_elim, ∥∥₁_map}
use Rattle.sqlite_wal.specs.Recovery.{Image}
use Rattle.restart.specs.Images.{Holds, Standing}
use Rattle.restart.specs.Lives.{AreDue, Asked, End, Follow, IsRun, Life, LivesAreDue, Run, RunsAreDue, RunsGoOn}
use Rattle.restart.specs.Runs.{AreRuns, RunsOn}

-- each run is as specified, from the status in the first files to the status in the last
pub runs_due : RunsAreDue
runs_due [] first last same before holds =
    ∣ (before, refl, subst (λ (image : Image). Holds image before) (sym same) holds) ∣₁
runs_due (run ∷ runs) first last follow before holds =
    ∥∥₁_elim (follow.0 before (subst (λ (image : Image). Holds image before) (sym follow.1) holds)) squash₁
    (λ next. ∥∥₁_map (runs_due runs run.left last follow.2 next.0 next.2) (λ rest.
    let all : (after : Standing) × AreDue before (run ∷ runs) after × Holds last after =
    (rest.0, (next.0, next.1, rest.1), rest.2) in all))

pub lives_are_due : LivesAreDue
lives_are_due runs last life =
    ∥∥₁_map (runs_due runs life.first last life.follow None (inl (inl (inl life.empty)))) (λ all.
    let due : (after : Standing) × AreDue None runs after = (all.0, all.1) in due)

-- one more run after others
follow_then : (runs : List Run) (run : Run) (first : Image) → Follow first runs run.found → IsRun run
    → Follow first (runs ++ run ∷ []) run.left
follow_then [] run first same is = (is, same, refl)
follow_then (other ∷ runs) run first follow is = (follow.0, follow.1, follow_then runs run other.left follow.2 is)

pub runs_go_on : RunsGoOn
runs_go_on run is runs life =
    let longer : Life (runs ++ run ∷ []) run.left = record {
      first = life.first;
      empty = life.empty;
      follow = follow_then runs run life.first life.follow is;
    } in (longer, lives_are_due (runs ++ run ∷ []) run.left longer)

-- a run of the program extends each lifetime
pub runs_on : (Gave : Asked → Type 0) (image : Image) (asked : Asked) (end : End) (may_leave : Image → Type 0)
    → Gave asked → AreRuns image asked end may_leave → RunsOn Gave image end may_leave
runs_on Gave image asked end may_leave gave runs = record {
  asked = asked;
  gave = gave;
  runs = runs;
  goes_on = λ left may. runs_go_on (record { found = image; asked = asked; end = end; left = left }) (runs left may);
}

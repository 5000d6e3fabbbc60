-- A run that gave no response, and left the files as it found them, is a run of the program.
use Rattle.office_jobs.proofs.Words.{All, Arrival, Asked, Exchange, Given, List, None, Opening, Some, [], arith, refl}
use Rattle.office_jobs.proofs.Words.{subst, sym, ◌∷◌, ◌≡◌}
use Rattle.std.proofs.Common.{map, suc, zero}
use Rattle.sqlite_wal.specs.Recovery.{Image}
use Rattle.web.specs.declared.exchange.Given.TheVariants.{Fault}
use Rattle.web.specs.Runs.{AllDue}
use Rattle.restart.proofs.Lives.{runs_go_on}
use Rattle.restart.specs.Images.{Holds, Standing}
use Rattle.restart.specs.Lives.{GivesNone, IsDue, IsRun}
use Rattle.restart.specs.Lives.End.{closed}
use Rattle.office_jobs.specs.Asked.{IsIdle}
use Rattle.office_jobs.specs.Whole.{IdlesOn}

-- faults add nothing to a history
faults_due : (o : Opening) (l : List Arrival) (exchanges : List Exchange)
    → AllDue o l exchanges (map (λ _. Fault) exchanges) l
faults_due o l [] = refl
faults_due o l (x ∷ xs) = faults_due o l xs

none_given : (exchanges : List Exchange) → All (λ (g : Given). g ≡ Fault) (map (λ _. Fault) exchanges)
none_given [] k d within = absurd (omega (arith, within))
none_given (x ∷ xs) zero d within = refl
none_given (x ∷ xs) (suc k) d within = none_given xs k d (omega (arith, within))

-- the status of an office stays as it is
stays : (asked : Asked) → IsIdle asked → (before : Standing) → IsDue asked closed before before
stays asked idle None = subst (λ (given : List Given). All (λ g. g ≡ Fault) given) (sym idle) (none_given asked.exchanges)
stays asked idle (Some p) = (
  refl,
  p.1,
  subst (λ (given : List Given). AllDue p.0 p.1 asked.exchanges given p.1) (sym idle)
      (faults_due p.0 p.1 asked.exchanges),
  refl,
)

is_run : (image : Image) (asked : Asked) → IsIdle asked → (left : Image) → left ≡ image
    → IsRun (record { found = image; asked = asked; end = closed; left = left })
is_run image asked idle left same before holds =
    ∣ (before, stays asked idle before, subst (λ (it : Image). Holds it before) (sym same) holds) ∣₁

pub idles_on : (Gave : Asked → Type 0) (image : Image) → (asked : Asked) × Gave asked × IsIdle asked
    → IdlesOn Gave image
idles_on Gave image it = record {
  on = record {
    asked = it.0;
    gave = it.1;
    runs = λ left same. is_run image it.0 it.2 left same;
    goes_on = λ left same. runs_go_on (record { found = image; asked = it.0; end = closed; left = left })
        (is_run image it.0 it.2 left same);
  };
  idle = it.2;
}

use Rattle.std.proofs.Common.{◌≡◌, IfOk, List, ℕ, subst}
use Rattle.station_jobs.specs.Whole.{ready_line}
use Rattle.station_jobs.proofs.telling.ready_text.Goals as goal

pub returns : goal.returns
returns c =
    subst (λ (f : List ℕ). IfOk c.ready_line.result
    (λ text. text.items ≡ ready_line c.args.scope.now.first c.args.scope.now.last f)) c.fingerprint.ensures
    c.ready_line.ensures

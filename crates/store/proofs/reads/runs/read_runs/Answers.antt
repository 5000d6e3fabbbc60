use Rattle.store.proofs.Words.{RiseFrom, subst, sym, ◌<◌, ◌^◌}
use Rattle.std.proofs.lemmas.List.Elements.{recursion_from_All}
use Rattle.store.proofs.Rising.{are_runs_from}
use Rattle.store.proofs.reads.runs.read_runs.Goals as goal

pub returns-in-None : goal.returns-in-None
returns-in-None c rise =
    let some = c.in-None.ensures.lawful.1 (are_runs_from 0 c.in-Ok.runs.items
    (subst (RiseFrom 0) (sym c.in-Ok.ensures.runs) rise)
    (recursion_from_All (λ r. r.hi < 2 ^ 63) c.in-Ok.runs.items c.in-Ok.ensures.small)) in
    cc

use Rattle.store.specs.Rows.{contents_of}
use Rattle.store.proofs.RunsShown.{all_reached}
use Rattle.store.proofs.Sorting.{rows_asked, rows_failed}
use Rattle.store.proofs.reads.runs.are_revoked.Goals as goal

pub returns : goal.returns
returns g c =
    let q = rw c.number.ensures at c.in_ok-found.ensures in
    rows_asked q.survives q.reads (λ clean s kept lawful means.
    let it = q.finds clean (contents_of s kept) means in (
      (λ history. rw c.reaches.ensures
          (all_reached s kept c.args.lo c.args.hi c.in_ok-found.found c.requires.order lawful history it.1)),
      it.0,
    ))

pub returns-in_err-found : goal.returns-in_err-found
returns-in_err-found g c =
    let e = c.in_err-found.ensures in
    rows_failed e.survives e.reads e.fault c.from_residual.ensures.1

use Rattle.store.proofs.Words.{contents_of, ◌∙◌}
use Rattle.store.proofs.Keeping.{kept_found}
use Rattle.store.proofs.Sorting.{rows_asked, rows_failed}
use Rattle.store.proofs.reads.kept.kept_for.Goals as goal

pub returns : goal.returns
returns g c =
    let q = c.in_ok-found.ensures in
    rows_asked q.survives q.reads (λ clean s kept lawful means.
    let f = q.finds clean (contents_of s kept) means in (
      λ history. c.kept_of.ensures
          ∙ kept_found s kept c.args.caller.now c.args.key.now c.in_ok-found.found history.apart f.1,
      f.0,
    ))

pub returns-in_err-found : goal.returns-in_err-found
returns-in_err-found g c =
    let e = c.in_err-found.ensures in
    rows_failed e.survives e.reads e.fault c.from_residual.ensures.1

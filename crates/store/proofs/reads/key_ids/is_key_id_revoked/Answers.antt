use Rattle.store.proofs.Words.{contents_of, is_same_key_id, ◌∙◌}
use Rattle.store.proofs.Found.{any_found}
use Rattle.store.proofs.Sorting.{rows_asked, rows_failed}
use Rattle.store.proofs.reads.key_ids.is_key_id_revoked.Goals as goal

pub returns : goal.returns
returns g c =
    let q = c.in_ok-found.ensures in
    rows_asked q.survives q.reads (λ clean s kept lawful means.
    let f = q.finds clean (contents_of s kept) means in
    (c.is_some.ensures ∙ any_found (is_same_key_id c.args.key_id.now) s.revoked_key_ids c.in_ok-found.found f.1, f.0))

pub returns-in_err-found : goal.returns-in_err-found
returns-in_err-found g c =
    let e = c.in_err-found.ensures in
    rows_failed e.survives e.reads e.fault c.from_residual.ensures.1

use Rattle.store.proofs.Words.{Bool, ap, cond, err_from_is_err_and, false, inl, inr, is_same_key_id, is_some, list_any}
use Rattle.store.proofs.Words.{sym, with_revoked, ◌∙◌}
use Rattle.store.proofs.Found.{any_found}
use Rattle.store.proofs.TransactionParts.{found_done, found_then, not_found, written}
use Rattle.store.proofs.Once.{not_there}
use Rattle.store.proofs.writes.changing.add_key_id.Goals as goal
use Rattle.store.proofs.writes.changing.add_key_id.Goals.{in-None, in-Some}

-- a missing key ID can be refused only for its size, or for lack of room
pub returns : goal.returns
returns g c =
    let key_id = c.args.key_id.now in
    let found = rw c.as_slice.ensures at c.in_ok-find_revoked.ensures in
    elim c.match-branch-2.branch [
      | in-None w ↦ rw (w.conn-is, w.result-is) (
          let put = rw w.as_slice-in-None.ensures at w.insert_revoked.ensures in
          found_then (λ (b : Bool) d. cond b d (with_revoked key_id d)) false
          (λ d. list_any (is_same_key_id key_id) d.revoked) found
          (λ clean d means. sym (ap is_some w.in-None.is)
          ∙ any_found (is_same_key_id key_id) d.revoked _ (found.finds clean d means).1)
          (written put)
          (λ d is why. elim why [ inl there ↦ absurd (not_there key_id d.revoked (sym is) there) | inr more ↦ more ]))
      | in-Some w ↦ rw (w.conn-is, w.result-is) (found_done found (λ clean d means.
          ap (λ (b : Bool). cond b d (with_revoked key_id d)) (sym (ap is_some w.in-Some.is)
          ∙ any_found (is_same_key_id key_id) d.revoked _ (found.finds clean d means).1)))
    ]

pub returns-in_err-find_revoked : goal.returns-in_err-find_revoked
returns-in_err-find_revoked g c =
    let p = err_from_is_err_and c.from_residual.result c.from_residual.ensures.1 in
    rw (p.1, p.2) (not_found c.in_err-find_revoked.ensures)

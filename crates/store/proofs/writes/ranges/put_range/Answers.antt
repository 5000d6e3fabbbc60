use Rattle.store.proofs.Words.{RefusesJoined, ap, err_from_is_err_and, joined_low, last_run, subst, with_joined, ℕ, ◌∙◌}
use Rattle.store.proofs.TransactionParts.{found_then, not_found}
use Rattle.store.specs.Ranges.{run_from}
use Rattle.store.proofs.writes.ranges.put_range.Goals as goal

pub returns : goal.returns
returns g c =
    let range = c.args.range in
    let found = c.in_ok-found.ensures in
    found_then (λ (n : ℕ) d. with_joined (run_from n range d) d) c.joined_low.result
    (λ d. joined_low range.lo (last_run range.lo d)) found
    (λ clean d means. c.joined_low.ensures ∙ ap (joined_low range.lo)
    ((found.finds clean d means).1 ∙ ap (λ (n : ℕ). last_run n d) c.number.ensures))
    c.put_from.ensures (λ d is. subst (λ (n : ℕ). RefusesJoined (run_from n range d) d) is)

pub returns-in_err-found : goal.returns-in_err-found
returns-in_err-found g c =
    let p = err_from_is_err_and c.from_residual.result c.from_residual.ensures.1 in
    rw (p.1, p.2) (not_found c.in_err-found.ensures)

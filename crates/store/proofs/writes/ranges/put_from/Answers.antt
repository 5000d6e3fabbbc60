use Rattle.store.proofs.Words.{RefusesJoined, ap, err_from_is_err_and, joined_high, last_run, subst, with_joined, ℕ}
use Rattle.store.proofs.Words.{◌+◌, ◌∙◌}
use Rattle.store.proofs.TransactionParts.{found_then, not_found}
use Rattle.store.proofs.writes.ranges.put_from.Goals as goal

pub returns : goal.returns
returns g c =
    let lo = c.args.lo in
    let range = c.args.range in
    let found = c.in_ok-found.ensures in
    found_then (λ (n : ℕ). with_joined (record { lo = lo; hi = n })) c.joined_high-hi.result
    (λ d. joined_high range.hi (last_run (range.hi + 1) d)) found
    (λ clean d means. c.joined_high-hi.ensures ∙ ap (joined_high range.hi)
    ((found.finds clean d means).1 ∙ ap (λ (n : ℕ). last_run n d) c.number.ensures))
    c.replace.ensures (λ d is. subst (λ (n : ℕ). RefusesJoined (record { lo = lo; hi = n }) d) is)

pub returns-in_err-found : goal.returns-in_err-found
returns-in_err-found g c =
    let p = err_from_is_err_and c.from_residual.result c.from_residual.ensures.1 in
    rw (p.1, p.2) (not_found c.in_err-found.ensures)

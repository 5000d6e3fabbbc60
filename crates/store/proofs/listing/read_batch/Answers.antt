use Rattle.store.proofs.Words.{Opening, ap, batch_of, filter, lies_within, numbered, ℕ, ◌+◌, ◌∙◌, ◌≡◌}
use Rattle.office.specs.History.{state as after}
use Rattle.store.proofs.Batches.{batch_is}
use Rattle.store.proofs.Reading.{and_then, of_state, reading_failed}
use Rattle.store.proofs.listing.read_batch.Goals as goal

pub returns : goal.returns
returns g c =
    let place = c.args.place in
    and_then (of_state c.in_ok-office.ensures.asks) (λ s kept rows. rows.items ≡ batch_of s place)
    c.batch_from.ensures
    (λ o l rows history of is. is
    ∙ ap (λ (n : ℕ). filter (lies_within (numbered n place) (numbered n (place + 999))) (after o l).certificates)
    (ap (λ (p : Opening). p.first) of.opening)
    ∙ batch_is o l history place)

pub returns-in_err-office : goal.returns-in_err-office
returns-in_err-office g c = reading_failed (of_state c.in_err-office.ensures.asks) c.from_residual.ensures.1

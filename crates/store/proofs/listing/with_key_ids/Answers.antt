use Rattle.store.proofs.Words.{Revocations, refl, ◌≡◌}
use Rattle.store.proofs.Reading.{and_shown, of_state, reading_failed}
use Rattle.store.proofs.listing.with_key_ids.Goals as goal

pub returns : goal.returns
returns g c =
    let ids = c.in_ok-key_ids.key_ids in
    and_shown (of_state c.in_ok-key_ids.ensures)
    (λ s kept (r : Revocations). (r.serials ≡ c.args.serials) × (r.key_ids.items ≡ s.revoked_key_ids))
    (record { serials = c.args.serials; key_ids = ids }) (λ o l history same. (refl, same))

pub returns-in_err-key_ids : goal.returns-in_err-key_ids
returns-in_err-key_ids g c = reading_failed (of_state c.in_err-key_ids.ensures) c.from_residual.ensures.1

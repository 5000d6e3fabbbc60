use Rattle.store.proofs.Words.{ap, has_any, sym, ◌∙◌}
use Rattle.office.proofs.Agreeing.{any_is}
use Rattle.store.proofs.Showing.{asks_shown, asks_failed}
use Rattle.store.proofs.reads.key_ids.has_revoked_key_ids.Goals as goal

pub returns : goal.returns
returns g c =
    let ids = c.in_ok-ids.ids in
    asks_shown c.in_ok-ids.ensures
    (λ s kept lawful same. any_is ids.items _ _ c.is_empty.ensures (sym ids.ok.0) ∙ ap has_any same)

pub returns-in_err-ids : goal.returns-in_err-ids
returns-in_err-ids g c = asks_failed c.in_err-ids.ensures c.from_residual.ensures.1

use Rattle.std.proofs.Common.{ℕ, refl, ap₂, ◌∙◌}
use Rattle.office.specs.Publication.{AreRevoked}
use Rattle.store.proofs.Reading.{and_then, of_state, reading_failed}
use Rattle.store.proofs.publishing.read_revoked.Goals as goal

pub returns : goal.returns
returns g c =
    let office = c.in_ok-office.office in
    and_then (of_state c.in_ok-office.ensures.asks) (λ s kept revoked. AreRevoked revoked s)
    c.revoked_with.ensures
    (λ o l revoked history of is. record {
      head = is.head ∙ ap₂ (λ (v d : ℕ). record { version = v; date = d }) of.version of.date;
      parts = is.parts refl;
      key_ids = is.key_ids;
    })

pub returns-in_err-office : goal.returns-in_err-office
returns-in_err-office g c = reading_failed (of_state c.in_err-office.ensures.asks) c.from_residual.ensures.1

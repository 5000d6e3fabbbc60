use Rattle.store.proofs.Words.{AreRevocations, List, Run, ap, contains, ℕ, ◌∙◌, ◌≡◌}
use Rattle.store.proofs.Showing.{asks_weaker}
use Rattle.store.proofs.Reading.{and_then, of_past, of_state, reading_failed}
use Rattle.store.proofs.listing.read_revocations.Goals as goal

pub returns : goal.returns
returns g c =
    let runs = c.in_ok-serials.serials in
    and_then (of_past {P = λ s kept runs. (n : ℕ) → contains runs n ≡ s.revoked n} (asks_weaker c.in_ok-serials.ensures
    (λ _. tt) (λ s kept runs lawful are. are.serials))) (λ s kept r. AreRevocations r s)
    c.with_key_ids.ensures
    (λ o l r history first rest. record {
      serials = λ n. ap (λ (rs : List Run). contains rs n) rest.0 ∙ first n;
      key_ids = rest.1;
    })

pub returns-in_err-serials : goal.returns-in_err-serials
returns-in_err-serials g c = reading_failed (of_state c.in_err-serials.ensures) c.from_residual.ensures.1

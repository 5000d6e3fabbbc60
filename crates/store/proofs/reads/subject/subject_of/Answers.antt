use Rattle.store.proofs.Words.{certificate_concerned, refl, ◌∙◌, ◌≡◌}
use Rattle.store.specs.Concerning.{IsSubject}
use Rattle.store.proofs.Showing.{asks_both, asks_shown, asks_failed}
use Rattle.store.proofs.reads.subject.subject_of.Goals as goal

pub returns-in-Ok : goal.returns-in-Ok
returns-in-Ok g c =
    let m = c.args.message.now in
    let certificate = c.in_ok-certificate.certificate in
    let one = c.in_ok-certificate.ensures in
    let two = c.in-Ok.ensures in
    record {
      asks = asks_both {Rest = λ s kept subject. certificate ≡ certificate_concerned s m → IsSubject subject s m} one.asks
          (asks_shown two.asks (λ s kept lawful beside same. record {
            certificate = same;
            department = beside (c.as_ref.ensures.value ∙ same);
          }))
          (λ s kept y lawful first rest history. rest (first history));
      lawful = record { certificate = one.lawful; department = two.lawful };
    }

pub returns-in-Err-clause-asks : goal.returns-in-Err-clause-asks
returns-in-Err-clause-asks g c =
    let m = c.args.message.now in
    let certificate = c.in_ok-certificate.certificate in
    asks_both {Rest = λ s kept subject. certificate ≡ certificate_concerned s m → IsSubject subject s m}
    c.in_ok-certificate.ensures.asks (asks_failed c.in-Err.ensures.asks refl)
    (λ s kept y lawful first rest history. rest (first history))

pub returns-in_err-certificate-clause-asks : goal.returns-in_err-certificate-clause-asks
returns-in_err-certificate-clause-asks g c =
    asks_failed c.in_err-certificate.ensures.asks c.from_residual.ensures.1

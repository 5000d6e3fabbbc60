use Rattle.office.specs.History.{state as after}
use Rattle.store.proofs.Words.{AreShown, IsMadeOf, revoked_is_issued}
use Rattle.store.proofs.Parts.{made_shown}
use Rattle.store.proofs.Reading.{and_made, reading_failed}
use Rattle.store.proofs.publishing.revoked_under.Goals as goal

pub returns : goal.returns
returns g c =
    let cas = c.args.cas.now in
    let read = c.in_ok-revocations.revocations in
    and_made c.in_ok-revocations.ensures (λ s kept revoked. AreShown revoked c.args.head cas s)
    (λ revoked. IsMadeOf revoked c.args.head cas read) c.revoked_of.result c.made.result c.made.ensures
    c.revoked_of.ensures
    (λ o l revoked history of is. made_shown revoked c.args.head cas read (after o l) is of (revoked_is_issued o l))

pub returns-in_err-revocations : goal.returns-in_err-revocations
returns-in_err-revocations g c = reading_failed c.in_err-revocations.ensures c.from_residual.ensures.1

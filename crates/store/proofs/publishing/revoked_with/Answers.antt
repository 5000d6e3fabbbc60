use Rattle.store.proofs.Words.{AreShown, ◌∙◌}
use Rattle.store.proofs.Reading.{and_then, reading_failed}
use Rattle.store.proofs.publishing.revoked_with.Goals as goal

pub returns : goal.returns
returns g c =
    and_then c.in_ok-cas.ensures.reads (λ s kept revoked. AreShown revoked c.args.head s.cas s)
    c.revoked_under.ensures
    (λ o l revoked history same is. record {
      head = is.head;
      parts = λ _. is.parts (c.as_slice.ensures.value ∙ same);
      key_ids = is.key_ids;
    })

pub returns-in_err-cas : goal.returns-in_err-cas
returns-in_err-cas g c = reading_failed c.in_err-cas.ensures.reads c.from_residual.ensures.1

use Rattle.store.proofs.Words.{ap, certificate_of, option_map, ◌∙◌, ◌≡◌}
use Rattle.office.specs.State.{body_of}
use Rattle.store.proofs.Reading.{and_shown, of_past, reading_failed}
use Rattle.store.proofs.serials.read_body_of.Goals as goal

pub returns : goal.returns
returns g c =
    and_shown (of_past {P = λ s kept found. found ≡ certificate_of s c.args.serial} c.in_ok-found.ensures.asks)
    (λ s kept body. body ≡ body_of s c.args.serial) c.body_in.result
    (λ o l history same. c.body_in.ensures ∙ ap (option_map (λ d. d.body)) same)

pub returns-in_err-found : goal.returns-in_err-found
returns-in_err-found g c =
    reading_failed (of_past {P = λ s kept found. found ≡ certificate_of s c.args.serial} c.in_err-found.ensures.asks)
    c.from_residual.ensures.1

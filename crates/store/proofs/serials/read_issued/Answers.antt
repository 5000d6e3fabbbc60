use Rattle.store.proofs.Words.{ap, certificate_of, option_map, ◌∙◌, ◌≡◌}
use Rattle.office.specs.Publication.{issued_of, issued_row}
use Rattle.store.proofs.Reading.{and_made, of_past, reading_failed}
use Rattle.store.proofs.serials.read_issued.Goals as goal

pub returns : goal.returns
returns g c =
    let found = c.in_ok-found.found in
    and_made (of_past {P = λ s kept found. found ≡ certificate_of s c.args.serial} c.in_ok-found.ensures.asks)
    (λ s kept issued. issued ≡ issued_of s c.args.serial) (λ issued. issued ≡ option_map issued_row found)
    c.issued_in.result c.made.result c.made.ensures c.issued_in.ensures
    (λ o l issued history same is. is ∙ ap (option_map issued_row) same)

pub returns-in_err-found : goal.returns-in_err-found
returns-in_err-found g c =
    reading_failed (of_past {P = λ s kept found. found ≡ certificate_of s c.args.serial} c.in_err-found.ensures.asks)
    c.from_residual.ensures.1

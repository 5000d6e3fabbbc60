use Rattle.cert.proofs.Words.{ap, sym, ◌∙◌}
use Rattle.cert.specs.Reading.{body_at}
use Rattle.cert.proofs.BodyAgain.{body_at-again}
use Rattle.cert.proofs.BodyLaws.{body_text-unique}
use Rattle.cert.proofs.writing.write_body.Goals as goal

pub returns-clause-again : goal.returns-clause-again
returns-clause-again c = ap body_at c.in_ok-put_from_validity.ensures ∙ body_at-again c.args.fields.now c.requires

pub returns-clause-only : goal.returns-clause-only
returns-clause-only c = λ d lawful text. body_text-unique d c.args.fields.now lawful c.requires (sym text
    ∙ c.in_ok-put_from_validity.ensures)

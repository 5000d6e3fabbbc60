use Rattle.std.proofs.Common.{ap, ◌∙◌}
use Rattle.values.specs.Decimals.{is_numeral, number_of}
use Rattle.values.proofs.DecimalLemmas.{numeral_utf8, parsed_number}
use Rattle.values.proofs.decimal.numeral_value.Goals as goal

pub returns-in_default : goal.returns-in_default
returns-in_default c = absurd (c.in_default.ensures.cases.0 (numeral_utf8 c.args.text.now c.requires))

pub returns : goal.returns
returns c =
    let same = c.in-Ok.ensures.cases.0 in
    c.ok.ensures.value
    ∙ parsed_number c.in-Ok.digits.now c.parse.result (ap is_numeral same ∙ c.requires) c.parse.ensures.value.0
    ∙ ap number_of same

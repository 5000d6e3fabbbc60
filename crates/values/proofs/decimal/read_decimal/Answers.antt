use Rattle.std.proofs.Common.{ap}
use Rattle.values.specs.Decimals.{is_numeral}
use Rattle.values.proofs.DecimalLemmas.{numeral_decimal, number_found, number_only}
use Rattle.values.proofs.decimal.read_decimal.Goals as goal

pub returns-then-is_numeral-clause-found : goal.returns-then-is_numeral-clause-found
returns-then-is_numeral-clause-found c = number_found c.args.text.now c.numeral_value.result c.numeral_value.ensures

pub returns-then-is_numeral-clause-only : goal.returns-then-is_numeral-clause-only
returns-then-is_numeral-clause-only c = number_only c.args.text.now c.numeral_value.result c.numeral_value.ensures

pub returns-else-is_numeral-clause-only : goal.returns-else-is_numeral-clause-only
returns-else-is_numeral-clause-only c = λ n small same.
    let yes = numeral_decimal n small in
    let moved = ap is_numeral same in
    cc

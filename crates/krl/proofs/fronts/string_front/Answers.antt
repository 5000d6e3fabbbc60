use Rattle.krl.proofs.Words.{ap, arith, sym, ◌∙◌}
use Rattle.wire.specs.Reading.{string_at}
use Rattle.krl.proofs.Bytes.{string_fits}
use Rattle.krl.proofs.fronts.string_front.Goals as goal

pub returns-clause-short : goal.returns-clause-short
returns-clause-short c =
    string_fits c.args.bytes.now c.in_ok-string.string.now _ (λ i. omega (arith, c.type_inv.bytes i))
    (ap string_at (sym c.new-cursor.ensures) ∙ c.in_ok-string.ensures.moves)

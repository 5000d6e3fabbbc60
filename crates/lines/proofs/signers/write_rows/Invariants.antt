use Rattle.std.proofs.Common.{true, take}
use Rattle.lines.specs.Signers.{signers_text}
use Rattle.lines.specs.Writing.{Writes}
use Rattle.lines.proofs.signers.write_rows.Given as goal

abbrev pub invariant-loop-row : goal.invariant-loop-row
invariant-loop-row g l = Writes g.W.Sink.taken g.W.Sink.failed g.W.Sink.room l.fn.sink l.sink true (signers_text
    (take l.row-index l.rows))

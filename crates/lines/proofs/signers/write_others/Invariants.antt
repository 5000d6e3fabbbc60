use Rattle.std.proofs.Common.{true, take}
use Rattle.lines.specs.Signers.{others_text}
use Rattle.lines.specs.Writing.{Writes}
use Rattle.lines.proofs.signers.write_others.Given as goal

abbrev pub invariant-loop-text : goal.invariant-loop-text
invariant-loop-text g l = Writes g.W.Sink.taken g.W.Sink.failed g.W.Sink.room l.fn.sink l.sink true (others_text
    (take l.text-index l.texts))

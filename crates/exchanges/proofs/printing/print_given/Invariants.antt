use Rattle.std.proofs.Common.{true, take}
use Rattle.lines.specs.Writing.{Writes}
use Rattle.exchanges.specs.Printing.{all_given_text}
use Rattle.exchanges.proofs.printing.print_given.Given as goal

abbrev pub invariant-loop-one : goal.invariant-loop-one
invariant-loop-one g l = Writes g.W.Sink.taken g.W.Sink.failed g.W.Sink.room l.initial.out l.out true (all_given_text
    (take l.one-index l.given))

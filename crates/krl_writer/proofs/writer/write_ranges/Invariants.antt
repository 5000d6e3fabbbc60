use Rattle.krl.proofs.Words.{Writes, flat_map, range_text, take, true}
use Rattle.krl_writer.proofs.writer.write_ranges.Given as goal

abbrev pub invariant-loop-run : goal.invariant-loop-run
invariant-loop-run g l =
    Writes g.W.Sink.taken g.W.Sink.failed g.W.Sink.room l.fn.sink l.sink true
    (flat_map range_text (take l.run-index l.runs))

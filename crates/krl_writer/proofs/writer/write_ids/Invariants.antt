use Rattle.krl.proofs.Words.{Writes, flat_map, string_text, take, true}
use Rattle.krl_writer.proofs.writer.write_ids.Given as goal

abbrev pub invariant-loop-id : goal.invariant-loop-id
invariant-loop-id g l =
    Writes g.W.Sink.taken g.W.Sink.failed g.W.Sink.room l.fn.sink l.sink true
    (flat_map string_text (take l.id-index l.ids))

use Rattle.krl.proofs.Words.{All, AreRuns, Writes, flat_map, take, true}
use Rattle.krl.proofs.WritingLaws.{sections_text}
use Rattle.krl_writer.proofs.writer.write_sections.Given as goal

abbrev pub invariant-loop-part : goal.invariant-loop-part
invariant-loop-part g l = record {
  written : Writes g.W.Sink.taken g.W.Sink.failed g.W.Sink.room l.fn.sink l.sink true
      (flat_map (sections_text l.ids) (take l.part-index l.parts));
  lawful : All (λ p. AreRuns p.runs) (take l.part-index l.parts);
}

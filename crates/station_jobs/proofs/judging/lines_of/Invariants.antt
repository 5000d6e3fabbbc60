use Rattle.std.proofs.Common.{◌≡◌, take}
use Rattle.std.specs.List.{flat_map}
use Rattle.guard.specs.AnswerLines.{answer_line}
use Rattle.station_jobs.proofs.judging.lines_of.Given as goal

-- the lines of the first answers
abbrev pub invariant-loop-answer : goal.invariant-loop-answer
invariant-loop-answer l = l.text.items ≡ flat_map answer_line (take l.answer-index l.answers)

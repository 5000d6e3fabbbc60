use Rattle.message.proofs.Words.{drop, list_line, ◌++◌, ◌≡◌}
use Rattle.message.proofs.PutLines.{each_after}
use Rattle.message.proofs.writing.put_listed.Given as goal

abbrev pub invariant-loop-text : goal.invariant-loop-text
invariant-loop-text l =
    l.out.items ++ each_after l.before (drop l.text-index l.texts) ≡ l.fn.out.items ++ list_line l.word l.texts

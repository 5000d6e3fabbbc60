use Rattle.cert.proofs.Words.{parts_text, take, ◌≡◌}
use Rattle.cert.proofs.writing.strings_bytes.Given as goal

abbrev pub invariant-loop-string : goal.invariant-loop-string
invariant-loop-string l = l.out.items ≡ parts_text (take l.string-index l.strings)

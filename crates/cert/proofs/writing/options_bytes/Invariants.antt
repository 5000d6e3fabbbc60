use Rattle.cert.proofs.Words.{options_text, take, ◌≡◌}
use Rattle.cert.proofs.writing.options_bytes.Given as goal

abbrev pub invariant-loop-option : goal.invariant-loop-option
invariant-loop-option l = l.out.items ≡ options_text (take l.option-index l.options)

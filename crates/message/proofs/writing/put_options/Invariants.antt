use Rattle.message.proofs.Words.{lines_text, map, option_line, take, ◌++◌, ◌≡◌}
use Rattle.message.proofs.writing.put_options.Given as goal

abbrev pub invariant-loop-option : goal.invariant-loop-option
invariant-loop-option l = l.out.items ≡ l.fn.out.items ++ lines_text (map option_line (take l.option-index l.options))

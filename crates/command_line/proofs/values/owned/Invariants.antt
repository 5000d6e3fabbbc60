use Rattle.std.proofs.Common.{◌≡◌, map, string_bytes, take}
use Rattle.command_line.proofs.values.owned.Given as goal

-- the first words have been taken
abbrev pub invariant-loop-word : goal.invariant-loop-word
invariant-loop-word l = map string_bytes l.texts.items ≡ map (λ v. v.now) (take l.word-index l.words)

use Rattle.message.proofs.Words.{map, take, ◌≡◌}
use Rattle.message.proofs.line.texts.Given as goal

abbrev pub invariant-loop-part : goal.invariant-loop-part
invariant-loop-part l = l.list ≡ map (λ x. x.now) (take l.part-index l.parts)

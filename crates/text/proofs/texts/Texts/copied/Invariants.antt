use Rattle.std.proofs.Common.{◌≡◌, take}
use Rattle.text.proofs.texts.Texts.copied.Given as goal

abbrev pub invariant-loop-text : goal.invariant-loop-text
invariant-loop-text l = l.items.items ≡ take l.text-index l.text-items

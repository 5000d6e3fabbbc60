use Rattle.std.proofs.Common.{◌≡◌, take}
use Rattle.text.proofs.pairs.Pairs.copied.Given as goal

abbrev pub invariant-loop-pair : goal.invariant-loop-pair
invariant-loop-pair l = l.items.items ≡ take l.pair-index l.pair-items

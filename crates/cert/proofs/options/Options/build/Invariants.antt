use Rattle.cert.proofs.Words.{drop, take}
use Rattle.cert.proofs.Listing.{IsListedSoFar}
use Rattle.cert.proofs.options.Options.build.Given as goal

abbrev pub invariant-loop-pair : goal.invariant-loop-pair
invariant-loop-pair l = IsListedSoFar l.fn.field l.listed.items (take l.pair-index l.pairs) (drop l.pair-index l.pairs)

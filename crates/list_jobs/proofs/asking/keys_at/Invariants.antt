use Rattle.std.proofs.Common.{map, string_bytes, take}
use Rattle.list_jobs.specs.Asking.{AreKeysAt}
use Rattle.list_jobs.proofs.asking.keys_at.Given as goal

-- the keys in the first files have been read
abbrev pub invariant-loop-path : goal.invariant-loop-path
invariant-loop-path g l = AreKeysAt g.P.Surroundings l.around g.F.Read.remaining
    (map string_bytes (take l.path-index l.paths)) l.keys.items

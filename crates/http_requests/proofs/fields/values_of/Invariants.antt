use Rattle.std.proofs.Common.{take}
use Rattle.http_requests.specs.FieldValues.{AreFound, covered}
use Rattle.http_requests.proofs.fields.values_of.Given as goal

-- the values so far
abbrev pub invariant-loop-header : goal.invariant-loop-header
invariant-loop-header l = AreFound l.found (covered l.name l.bytes (take l.header-index l.headers))

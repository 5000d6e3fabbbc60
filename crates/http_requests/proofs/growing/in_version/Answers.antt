use Rattle.http_requests.proofs.Places.{version_more, version_end}
use Rattle.http_requests.proofs.growing.in_version.Goals as goal

pub returns-then-byte-came : goal.returns-then-byte-came
returns-then-byte-came c = version_more c.args.came c.args.byte c.if-came.true c.if-byte-came.true

pub returns-then-byte-eq49 : goal.returns-then-byte-eq49
returns-then-byte-eq49 c = version_end c.args.came c.args.byte c.if-came-2.true c.if-byte-eq49.either

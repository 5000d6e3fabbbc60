use Rattle.http_requests.proofs.Places.{waits_at, whole_at}
use Rattle.http_requests.proofs.growing.Spot.progress.Goals as goal

pub returns-then-self-le-MAX_HEADER_LINES : goal.returns-then-self-le-MAX_HEADER_LINES
returns-then-self-le-MAX_HEADER_LINES c =
    let spot = c.args.self in
    whole_at spot.lines c.args.bytes.now (rw c.in-Whole.is at c.requires) c.if-self-le-MAX_HEADER_LINES.true

pub returns-in_default : goal.returns-in_default
returns-in_default c =
    let spot = c.args.self in
    waits_at spot.place spot.lines c.args.bytes.now c.in_default.not-Whole c.in_default.not-Elsewhere c.requires

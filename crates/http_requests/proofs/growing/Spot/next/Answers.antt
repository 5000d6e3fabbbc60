use Rattle.http_requests.proofs.Places.{begin_at}
use Rattle.http_requests.proofs.growing.Spot.next.Goals as goal

pub returns-then-begins_line : goal.returns-then-begins_line
returns-then-begins_line c = λ bytes at.
    let spot = c.args.self in
    begin_at spot.place spot.lines c.args.byte bytes (c.begins_line.ensures c.if-begins_line.true) at

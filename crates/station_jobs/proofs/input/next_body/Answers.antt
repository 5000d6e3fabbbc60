use Rattle.std.proofs.Common.{sym, ◌∙◌}
use Rattle.station_jobs.proofs.Batches.{body_taken, line_taken}
use Rattle.station_jobs.proofs.input.next_body.Goals as goal

pub returns-in-Ok-next_bytes-clause-taken : goal.returns-in-Ok-next_bytes-clause-taken
returns-in-Ok-next_bytes-clause-taken g c =
    let old = g.I.Read.remaining c.args.input.now in
    let mid = g.I.Read.remaining c.next_line.new.input in
    let new = g.I.Read.remaining c.next_bytes.new.input in
    rw c.from_vec.ensures (body_taken old mid new c.in-Ok.line.items c.in-Ok-next_bytes.bytes.items c.in-Some.size
    (sym c.as_slice.ensures.value ∙ c.in-Some.ensures.line) c.in-Ok-next_bytes.ensures.size
    (line_taken old mid c.in-Ok.line.items c.in-Ok.ensures.taken) c.in-Ok-next_bytes.ensures.taken)

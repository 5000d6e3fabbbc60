use Rattle.std.proofs.Common.{◌≡◌, length, rules, sym, ◌∙◌}
use Rattle.station_jobs.proofs.Batches.{batch_taken, line_at_end, line_taken}
use Rattle.station_jobs.proofs.input.next_batch.Goals as goal

pub returns-then-is_empty-clause-end : goal.returns-then-is_empty-clause-end
returns-then-is_empty-clause-end g c none =
    let empty : length c.in-Ok.line.items ≡ 0 = search rules in
    line_at_end (g.I.Read.remaining c.args.input.now) (g.I.Read.remaining c.next_line.new.input) c.in-Ok.line.items
    c.in-Ok.ensures.taken empty

pub returns-in-Ok-next_bodies-clause-taken : goal.returns-in-Ok-next_bodies-clause-taken
returns-in-Ok-next_bodies-clause-taken g c =
    let old = g.I.Read.remaining c.args.input.now in
    let mid = g.I.Read.remaining c.next_line.new.input in
    let new = g.I.Read.remaining c.next_bodies.new.input in
    let is = c.in-Ok-next_bodies.ensures in
    batch_taken old mid new c.in-Ok.line.items c.in-Ok-next_bodies.bodies.items c.in-Some.count
    (sym c.as_slice.ensures.value ∙ c.in-Some.ensures.line) c.in-Some.ensures.range is.count is.sizes
    (line_taken old mid c.in-Ok.line.items c.in-Ok.ensures.taken) is.taken

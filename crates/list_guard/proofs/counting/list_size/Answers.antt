use Rattle.std.proofs.Common.{arith, ◌∙◌}
use Rattle.krl.specs.Published.{published_sections}
use Rattle.list_guard.proofs.Counted.{behind_head, its_sections, long_enough}
use Rattle.list_guard.proofs.counting.list_size.Goals as goal

pub returns-then-list-lt-HEADER_LEN-clause-size : goal.returns-then-list-lt-HEADER_LEN-clause-size
returns-then-list-lt-HEADER_LEN-clause-size c now is =
    let long = long_enough c.args.list.now now is in
    let short = c.if-list-lt-HEADER_LEN.true in
    absurd (omega (arith, long, short))

pub returns-clause-size : goal.returns-clause-size
returns-clause-size c now is =
    c.sections_size.ensures.size (published_sections now.cas now.ids) (its_sections c.args.list.now now is)
    (c.split_at.ensures.back ∙ behind_head c.args.list.now now is)

use Rattle.krl.proofs.Words.{sym, writes_as, writes_nothing, ◌∙◌}
use Rattle.krl.proofs.WritingLaws.{one_section, no_section}
use Rattle.krl_writer.proofs.writer.write_part.Goals as goal

pub returns-then-is_idle_part-clause-written : goal.returns-then-is_idle_part-clause-written
returns-then-is_idle_part-clause-written g c =
    writes_as (no_section c.args.ids.now c.args.part.now (sym c.is_idle_part.ensures.value ∙ c.if-is_idle_part.true))
    (writes_nothing c.args.sink.now)

pub returns-clause-written : goal.returns-clause-written
returns-clause-written g c =
    writes_as
    (one_section c.args.ids.now c.args.part.now (sym c.is_idle_part.ensures.value ∙ c.if-is_idle_part.false))
    c.write_section.ensures

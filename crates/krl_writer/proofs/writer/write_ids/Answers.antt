use Rattle.krl.proofs.Words.{ap, arith, string_text, writes_as, writes_failed, writes_part}
use Rattle.krl_writer.proofs.writer.write_ids.Goals as goal

pub returns-in_err-write_string : goal.returns-in_err-write_string
returns-in_err-write_string g c =
    writes_failed c.from_residual.result _ _ _ c.from_residual.ensures.0
    (writes_part string_text c.args.ids.now c.loop-id.id-index c.id-item.result _ _ _
    (omega arith) c.id-item.is c.loop-id.invariant
    (writes_as (ap string_text c.as_slice.ensures) c.in_err-write_string.ensures))

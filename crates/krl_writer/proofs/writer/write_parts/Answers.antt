use Rattle.krl.proofs.Words.{refl}
use Rattle.krl.proofs.WritingLaws.{parts_pieces, stops, writes_on}
use Rattle.krl_writer.proofs.writer.write_parts.Goals as goal

pub returns-in_err-write_serial_list : goal.returns-in_err-write_serial_list
returns-in_err-write_serial_list g c =
    stops _ _ _ c.from_residual.ensures.0 (parts_pieces c.args.runs.now c.args.ids.now)
    c.in_err-write_serial_list.ensures

pub returns-in_err-write_ranges : goal.returns-in_err-write_ranges
returns-in_err-write_ranges g c =
    writes_on _ _ (parts_pieces c.args.runs.now c.args.ids.now) c.in_ok-write_serial_list.ensures
    (stops _ _ _ c.from_residual-in_err-write_ranges.ensures.0 refl c.in_err-write_ranges.ensures)

pub returns : goal.returns
returns g c =
    writes_on _ _ (parts_pieces c.args.runs.now c.args.ids.now) c.in_ok-write_serial_list.ensures
    (writes_on _ _ refl c.in_ok-write_ranges.ensures c.write_key_ids.ensures)

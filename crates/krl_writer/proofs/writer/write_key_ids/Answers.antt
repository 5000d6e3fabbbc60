use Rattle.krl.proofs.WritingLaws.{key_id_pieces, stops, writes_on}
use Rattle.krl_writer.proofs.writer.write_key_ids.Goals as goal

pub returns-in_err-write_tag : goal.returns-in_err-write_tag
returns-in_err-write_tag g c =
    stops _ _ _ c.from_residual.ensures.0 (key_id_pieces c.args.ids.now _ _ c.key_ids_len.ensures c.unwrap-len.ensures
    c.if-is_empty.ensures) c.in_err-write_tag.ensures

pub returns : goal.returns
returns g c =
    writes_on _ _ (key_id_pieces c.args.ids.now _ _ c.key_ids_len.ensures c.unwrap-len.ensures c.if-is_empty.ensures)
    c.in_ok-write_tag.ensures c.write_ids.ensures

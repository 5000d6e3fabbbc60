use Rattle.krl.proofs.WritingLaws.{section_pieces, stops, writes_on}
use Rattle.krl_writer.proofs.writer.write_section.Goals as goal

pub returns-in_err-write_tag : goal.returns-in_err-write_tag
returns-in_err-write_tag g c =
    stops _ _ _ c.from_residual.ensures.0 (section_pieces c.args.ids.now c.args.part.now _ _ c.section_data_len.ensures
    c.unwrap-len.ensures) c.in_err-write_tag.ensures

pub returns : goal.returns
returns g c =
    writes_on _ _ (section_pieces c.args.ids.now c.args.part.now _ _ c.section_data_len.ensures c.unwrap-len.ensures)
    c.in_ok-write_tag.ensures c.write_data.ensures

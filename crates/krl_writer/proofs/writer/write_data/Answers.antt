use Rattle.krl.proofs.Words.{List, ap, flat_map, key_id_parts, part_text, refl, serial_parts, string_text}
use Rattle.krl.specs.declared.run.Run.{Run}
use Rattle.krl.proofs.Words.{writes_as, ◌++◌}
use Rattle.krl.proofs.WritingLaws.{stops, writes_on}
use Rattle.krl_writer.proofs.writer.write_data.Goals as goal

pub returns-in_err-write_string : goal.returns-in_err-write_string
returns-in_err-write_string g c =
    stops _ _ _ c.from_residual.ensures.0 refl
    (writes_as (ap string_text c.key_blob_of.ensures) c.in_err-write_string.ensures)

pub returns-in_err-write_string-2 : goal.returns-in_err-write_string-2
returns-in_err-write_string-2 g c =
    writes_on _ _ refl (writes_as (ap string_text c.key_blob_of.ensures) c.in_ok-write_string.ensures)
    (stops _ _ _ c.from_residual-in_err-write_string-2.ensures.0 refl c.in_err-write_string-2.ensures)

pub returns : goal.returns
returns g c =
    writes_on _ _ refl (writes_as (ap string_text c.key_blob_of.ensures) c.in_ok-write_string.ensures)
    (writes_on _ _ refl c.in_ok-write_string-2.ensures
    (writes_as (ap (λ (rs : List Run). flat_map part_text (serial_parts rs ++ key_id_parts c.args.ids.now))
    c.runs.ensures.kept) c.write_parts.ensures))

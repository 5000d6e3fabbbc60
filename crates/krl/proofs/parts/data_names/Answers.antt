use Rattle.krl.proofs.SectionReading.{serials_read, range_read, key_ids_read}
use Rattle.krl.proofs.parts.data_names.Goals as goal

pub returns-in-32-clause-found : goal.returns-in-32-clause-found
returns-in-32-clause-found c =
    let both =
    serials_read c.args.bytes.now c.args.serial c.args.key_id.now c.requires c.serials_name.result
    c.serials_name.ensures.found c.serials_name.ensures.none in
    rw (c.ok_or.ensures.value, c.in-32.is) (both.0)

pub returns-in-33-clause-found : goal.returns-in-33-clause-found
returns-in-33-clause-found c =
    let both =
    range_read c.args.bytes.now c.args.serial c.args.key_id.now c.requires c.range_names.result
    c.range_names.ensures.found c.range_names.ensures.none in
    rw (c.ok_or-in-33.ensures.value, c.in-33.is) (both.0)

pub returns-in-35-clause-found : goal.returns-in-35-clause-found
returns-in-35-clause-found c =
    let both =
    key_ids_read c.args.bytes.now c.args.serial c.args.key_id.now c.requires c.key_ids_name.result
    c.key_ids_name.ensures.some c.key_ids_name.ensures.found c.key_ids_name.ensures.none in
    rw (c.ok_or-in-35.ensures.value, c.in-35.is) (both.0)

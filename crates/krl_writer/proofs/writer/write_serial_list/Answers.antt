use Rattle.krl.proofs.Words.{writes_as, writes_nothing}
use Rattle.krl.proofs.WritingLaws.{listed_pieces, listed_nothing, stops, writes_on}
use Rattle.krl_writer.proofs.writer.write_serial_list.Goals as goal

pub returns-then-len-eq0 : goal.returns-then-len-eq0
returns-then-len-eq0 g c =
    writes_as (listed_nothing c.args.runs.now _ _ c.listed_len.ensures c.unwrap-len.ensures c.if-len-eq0.true)
    (writes_nothing c.args.sink.now)

pub returns-in_err-write_tag : goal.returns-in_err-write_tag
returns-in_err-write_tag g c =
    stops _ _ _ c.from_residual.ensures.0 (listed_pieces c.args.runs.now _ _ c.listed_len.ensures c.unwrap-len.ensures
    c.if-len-eq0.false) c.in_err-write_tag.ensures

pub returns : goal.returns
returns g c =
    writes_on _ _ (listed_pieces c.args.runs.now _ _ c.listed_len.ensures c.unwrap-len.ensures c.if-len-eq0.false)
    c.in_ok-write_tag.ensures c.write_listed.ensures

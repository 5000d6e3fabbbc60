use Rattle.cert.proofs.Words.{kind_number, u64_text}
use Rattle.cert.proofs.Appends.{put_after, number_last}
use Rattle.cert.proofs.writing.put_kind.Goals as goal

pub returns : goal.returns
returns c =
    let f = c.args.fields.now in
    let serial = put_after (u64_text f.serial) _ _ _ c.in_ok-put_u64.ensures.ok c.requires in
    number_last (kind_number f.kind) _ c.put_u32.result _ _ _ c.put_u32.ensures.ok c.number_of.ensures serial

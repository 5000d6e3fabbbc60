use Rattle.cert.proofs.Words.{u64_text}
use Rattle.cert.proofs.Appends.{both_last}
use Rattle.cert.proofs.writing.put_validity.Goals as goal

pub returns : goal.returns
returns c =
    let f = c.args.fields.now in
    both_last (u64_text f.after) (u64_text f.before) c.put_u64-2.result _ _ _ _ c.put_u64-2.ensures.ok
    c.in_ok-put_u64.ensures.ok c.requires

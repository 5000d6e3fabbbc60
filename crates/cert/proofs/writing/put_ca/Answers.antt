use Rattle.cert.proofs.Words.{[], key_blob, string_text}
use Rattle.cert.proofs.Appends.{put_after, string_last}
use Rattle.cert.proofs.writing.put_ca.Goals as goal

pub returns : goal.returns
returns c =
    let reserved = put_after (string_text []) _ _ _ c.in_ok-put_string.ensures.ok c.requires in
    string_last (key_blob c.args.fields.now.ca) _ c.put_string-2.result _ _ _ c.put_string-2.ensures.ok
    c.key_blob_of.ensures reserved

use Rattle.lines.specs.Keys.{signature_blob}
use Rattle.cert.proofs.Appends.{string_after}
use Rattle.cert.proofs.signature.join_signature.Goals as goal

pub returns : goal.returns
returns c = record {
  text = string_after (signature_blob c.args.signature.now.bytes) _ _ _ c.args.body.now
      c.in_ok-put_string.ensures.ok c.signature_blob_of.ensures c.in_ok-out.ensures.items;
}

use Rattle.cert.proofs.Words.{◌∙◌}
use Rattle.cert.proofs.Appends.{as_short}
use Rattle.cert.proofs.writing.strings_bytes.Goals as goal

pub put_string-requires : goal.put_string-requires
put_string-requires c = as_short _ _ (c.as_slice.ensures ∙ c.string-item.is) (c.requires
    c.loop-string.string-index c.string-item.result c.loop-string-test.true)

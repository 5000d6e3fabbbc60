use Rattle.lines.proofs.BlobWords.{word_is_blob}
use Rattle.lines.proofs.laws.base64_words_are_blobs.Goals as goal

pub returns : goal.returns
returns c = word_is_blob

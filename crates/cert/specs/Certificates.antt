-- Certificates (PROTOCOL.certkeys): an unsigned certificate (body), and the CA's signature of it.
use Rattle.std.specs.Prelude.{ℕ, List, ◌++◌}
use Rattle.wire.specs.Texts.{string_text}
use Rattle.lines.specs.Keys.{signature_blob}

-- the body, and the blob of the signature's 64 bytes as a string
abbrev pub certificate_text : List ℕ → List ℕ → List ℕ
certificate_text body signature = body ++ string_text (signature_blob signature)

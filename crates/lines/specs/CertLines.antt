-- Certificate lines, as ssh-keygen(1) writes them.
use Rattle.std.specs.Prelude.{ℕ, List, [], ◌∷◌, ◌++◌, Option, Some, None}
use Rattle.base64.specs.Engines.{standard}
use Rattle.base64.specs.GeneralPurpose.{encode_of}
use Rattle.wire.specs.Reading.{string_at}

abbrev pub first_or_none : Option (List ℕ × List ℕ) → List ℕ
first_or_none (Some s) = s.0
first_or_none None = []

-- the name of the certificate's type: its first string (PROTOCOL.certkeys)
abbrev pub own_name : List ℕ → List ℕ
own_name certificate = first_or_none (string_at certificate)

-- the type, a space, the certificate in base64, a space, and the comment; no line feed
abbrev pub certificate_line_text : List ℕ → List ℕ → List ℕ
certificate_line_text certificate comment =
    own_name certificate ++ 32 ∷ (encode_of standard certificate ++ 32 ∷ comment)

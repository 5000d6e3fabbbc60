-- Allowed signers (ssh-keygen(1), ALLOWED SIGNERS).
use Rattle.std.specs.Prelude.{ℕ, List, [], ◌∷◌, ◌++◌, codes, flat_map}
use Rattle.std.specs.List.{join_with_byte}
use Rattle.base64.specs.Engines.{standard}
use Rattle.base64.specs.GeneralPurpose.{encode_of}
use Rattle.lines.specs.Keys.{key_blob}
use Rattle.lines.specs.KeyLines.{key_line_head}
use Rattle.lines.specs.declared.signers.SignerRow.{SignerRow}

-- texts joined by commas
abbrev pub list_text : List (List ℕ) → List ℕ
list_text texts = join_with_byte 44 texts

-- texts, each after a comma
abbrev pub others_text : List (List ℕ) → List ℕ
others_text texts = flat_map (λ t. 44 ∷ t) texts

-- the patterns, a space, the options, a space, and the CA's public-key line, with a line feed
abbrev pub signer_text : SignerRow → List ℕ
signer_text row =
    list_text row.rules ++ (codes " cert-authority,namespaces=\"" ++ (list_text row.namespaces ++ (codes "\" " ++
    (key_line_head ++ (encode_of standard (key_blob row.ca) ++ 10 ∷ [])))))

-- the line of each row, in order
abbrev pub signers_text : List SignerRow → List ℕ
signers_text rows = flat_map signer_text rows

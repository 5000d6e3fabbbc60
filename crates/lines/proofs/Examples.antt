-- Worked examples of public-key lines, computed by the definitions.
use Rattle.std.proofs.Common.{◌≡◌, List, ℕ, ◌++◌, codes, replicate, refl, None, Some, Ok, Err}
use Rattle.base64.proofs.OnLiterals.{base64_on_literals}
use Rattle.lines.specs.KeyLines.{key_line_text}
use Rattle.lines.specs.Reading.{key_line_at}
use Rattle.lines.specs.declared.key_line.LineFault.TheVariants.{WrongType, BadBase64, BadBlob, BadComment}

-- the blob of 32 bytes 0x11 in base64
abbrev pub ones : List ℕ
ones = codes "AAAAC3NzaC1lZDI1NTE5AAAAIBERERERERERERERERERERERERERERERERERERERERER"

-- a key without comment, with an empty one, and with one
pub read : (key_line_at (codes "ssh-ed25519 " ++ ones) ≡ Ok (record { key = replicate 32 17; comment = None }))
    × (key_line_at (codes "ssh-ed25519 " ++ (ones ++ codes " ")) ≡ Ok (record {
      key = replicate 32 17;
      comment = Some
          (codes "");
    }))
    × (key_line_at (codes "ssh-ed25519 " ++ (ones ++ codes " a b")) ≡ Ok (record {
      key = replicate 32 17;
      comment = Some
          (codes "a b");
    }))
unfolding base64_on_literals key_line_at
read = (refl, refl, refl)

pub written : key_line_text (record { key = replicate 32 17; comment = Some (codes "") }) ≡ codes "ssh-ed25519 " ++
    (ones ++ codes " ")
unfolding base64_on_literals
written = refl

-- a wrong type, a word that is too long, a blob of a wrong type, a comment of two lines
pub faults : (key_line_at (codes "ssh-rsa AAAA") ≡ Err WrongType) × (key_line_at (codes "ssh-ed25519 " ++
    (ones ++ codes "A")) ≡ Err BadBase64)
    × (key_line_at (codes "ssh-ed25519 BAAAC3NzaC1lZDI1NTE5AAAAIBERERERERERERERERERERERERERERERERERERERERER") ≡ Err
    BadBlob)
    × (key_line_at (codes "ssh-ed25519 " ++ (ones ++ codes " a\nb")) ≡ Err BadComment)
unfolding base64_on_literals key_line_at
faults = (refl, refl, refl, refl)

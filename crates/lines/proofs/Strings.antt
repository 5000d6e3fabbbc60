-- Strings among bytes.
use Rattle.std.proofs.Common.{List, [], ◌∷◌, append_assoc, arith, eqb, length, refl, true, ℕ, ◌++◌, ◌∙◌, ◌≡◌}
use Rattle.std.proofs.lemmas.Bool.{eqb-true}
use Rattle.text.proofs.ByteLemmas.{IsBytes_front, IsBytes_left}
use Rattle.text.specs.Bytes.{IsBytes}
use Rattle.wire.specs.Texts.{string_text, u32_text}

-- a string at the front of bytes is a list of bytes
pub IsBytes_string : (bytes s rest : List ℕ) → bytes ≡ string_text s ++ rest → IsBytes bytes → IsBytes s
IsBytes_string bytes s rest e h =
    IsBytes_front s rest (IsBytes_left bytes (u32_text (length s)) (s ++ rest) h (e
    ∙ append_assoc (u32_text (length s)) s rest))

-- a text of length 0 is empty
pub empty : (t : List ℕ) → eqb (length t) 0 ≡ true → t ≡ []
empty [] e = refl
empty (b ∷ t) e = absurd (omega (arith, eqb-true _ _ e))

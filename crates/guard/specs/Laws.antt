-- Definitions for the theorems about every list of questions.
use Rattle.std.specs.Prelude.{◌≡◌, ℕ, ◌+◌, ◌≤◌, List, [], ◌∷◌, length, Bool, true, ◌&&◌, nat_le}
use Rattle.cert.specs.Bodies.{IsCertFields, body_text}
use Rattle.cert.specs.declared.fields.CertFields.{CertFields}
use Rattle.guard.specs.declared.refusal.Refusal.{Refusal}
use Rattle.guard.specs.Refusals.{refusal_number}

-- the bytes are the text of these valid fields, and no longer than an unsigned certificate (body) may be
pub record IsBodyOf (bytes : List ℕ) (c : CertFields) : Type 0 where
  pub short : length bytes ≤ 16384
  pub fields : IsCertFields c
  pub text : bytes ≡ body_text c

-- the numbers of the refusals ascend strictly, from this one on
abbrev pub ascend_from : ℕ → List (Refusal × Bool) → Bool
ascend_from least [] = true
ascend_from least (r ∷ rs) = nat_le least (refusal_number r.0) && ascend_from (refusal_number r.0 + 1) rs

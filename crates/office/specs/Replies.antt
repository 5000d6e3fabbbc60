-- The texts of replies. Each line ends with a line feed.
use Rattle.std.specs.Prelude.{ℕ, List, [], ◌∷◌, ◌++◌, codes}
use Rattle.std.specs.Fmt.{decimal}
use Rattle.lines.specs.Digests.{digest_text}

abbrev pub department_reply : List ℕ → List ℕ
department_reply name = codes "department " ++ name ++ 10 ∷ []

-- the serial and the digest of the unsigned certificate
abbrev pub issue_reply : ℕ → List ℕ → List ℕ
issue_reply serial body =
    (codes "issued " ++ decimal serial ++ 10 ∷ []) ++ (codes "digest " ++ digest_text body ++ 10 ∷ [])

abbrev pub delivery_reply : ℕ → List ℕ
delivery_reply serial = codes "signed " ++ decimal serial ++ 10 ∷ []

-- the version of the published list from then on
abbrev pub revocation_reply : ℕ → List ℕ
revocation_reply version = (codes "revoked" ++ 10 ∷ []) ++ (codes "version " ++ decimal version ++ 10 ∷ [])

-- the number of the CA, and the first serial that it serves
abbrev pub rollover_reply : ℕ → ℕ → List ℕ
rollover_reply number since =
    (codes "rollover " ++ decimal number ++ 10 ∷ []) ++ (codes "since " ++ decimal since ++ 10 ∷ [])

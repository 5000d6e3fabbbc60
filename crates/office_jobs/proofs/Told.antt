-- Text that is printed in parts.
use Rattle.office_jobs.proofs.Words.{List, Opening, ap, append_assoc, codes, decimal, ℕ, ◌++◌, ◌∙◌, ◌∷◌, ◌≡◌}
use Rattle.lines.specs.Digests.{fingerprint_text}
use Rattle.office_jobs.specs.Making.{ready_text}

-- the text before the fingerprint
abbrev pub serials_text : Opening → List ℕ
serials_text o = codes "office ready " ++ (decimal o.first ++ (32 ∷ (decimal o.last ++ codes "\nca ")))

pub ready_parts : (o : Opening) → serials_text o ++ (fingerprint_text o.ca ++ codes "\n") ≡ ready_text o
ready_parts o =
    let last : List ℕ = fingerprint_text o.ca ++ codes "\n" in
    ap (λ (t : List ℕ). codes "office ready " ++ t)
    (append_assoc (decimal o.first) (32 ∷ (decimal o.last ++ codes "\nca ")) last
    ∙ ap (λ (t : List ℕ). decimal o.first ++ (32 ∷ t)) (append_assoc (decimal o.last) (codes "\nca ") last))

-- Rows of certificates and of CAs, by their numbers.
use Rattle.store.proofs.Words.{AreCounted, Ca, CaRow, CertRow, Certificate, IsPermutation, IsPermutation-sym, List}
use Rattle.store.proofs.Words.{Signature, [], ap, arith, ca_row, ca_rows, cert_row, cond, eq-eqb, has_serial, length}
use Rattle.store.proofs.Words.{map, map-append, ne_eqb, refl, signed_at, suc, zero, ℕ, ◌++◌, ◌+◌, ◌<◌, ◌∙◌, ◌∷◌, ◌≡◌}
use Rattle.std.proofs.lemmas.List.Sorted.{IsPermutation-to_front}
use Rattle.store_sql.specs.Changes.{signed_row}

-- an element at the end, moved to the front
pub to_front : {X Y : Type 0} (f : X → Y) (x : X) (xs : List X) → IsPermutation (f x ∷ map f xs) (map f (xs ++ x ∷ []))
to_front f x xs = rw (map-append f xs (x ∷ [])) (IsPermutation-sym _ _ (IsPermutation-to_front (map f xs) (f x)))

-- ---- signatures

-- the row of this serial gets the signature
abbrev signs : ℕ → List ℕ → CertRow → CertRow
signs serial signature row = cond (has_serial serial row) (signed_row signature row) row

unsigned : (n serial : ℕ) (cs : List Certificate) (signature : List ℕ) → AreCounted n cs → serial < n
    → map (signs serial signature) (map cert_row cs) ≡ map cert_row cs
unsigned n serial [] signature counted lt = refl
unsigned n serial (c ∷ cs) signature counted lt =
    rw (ne_eqb c.fields.serial serial (λ e. omega (arith, counted.0, e)))
    (ap (λ (rows : List CertRow). cert_row c ∷ rows)
    (unsigned (suc n) serial cs signature counted.1 (omega arith)))

pub signed_rows : (n serial place : ℕ) (cs : List Certificate) (signature : Signature) → AreCounted n cs
    → serial ≡ n + place
    → map (signs serial signature.bytes) (map cert_row cs) ≡ map cert_row (signed_at cs place signature)
signed_rows n serial place [] signature counted is = refl
signed_rows n serial zero (c ∷ cs) signature counted is =
    rw (eq-eqb c.fields.serial serial (omega (arith, counted.0)))
    (ap (λ (rows : List CertRow). signed_row signature.bytes (cert_row c) ∷ rows)
    (unsigned (suc n) serial cs signature.bytes counted.1 (omega arith)))
signed_rows n serial (suc place) (c ∷ cs) signature counted is =
    rw (ne_eqb c.fields.serial serial (λ e. omega (arith, counted.0, e)))
    (ap (λ (rows : List CertRow). cert_row c ∷ rows)
    (signed_rows (suc n) serial place cs signature counted.1 (omega arith)))

-- ---- CAs

ca_last : (n : ℕ) (cas : List Ca) (ca : Ca)
    → ca_rows n (cas ++ ca ∷ []) ≡ ca_rows n cas ++ ca_row (n + length cas) ca.since ca ∷ []
ca_last n [] ca = ap (λ (k : ℕ). ca_row k ca.since ca ∷ []) (omega arith)
ca_last n (c ∷ cas) ca =
    let same : suc n + length cas ≡ n + suc (length cas) = omega arith in
    ap (λ (rows : List CaRow). ca_row n c.since c ∷ rows)
    (ca_last (suc n) cas ca ∙ ap (λ (k : ℕ). ca_rows (suc n) cas ++ ca_row k ca.since ca ∷ []) same)

pub ca_added : (cas : List Ca) (ca : Ca)
    → IsPermutation (ca_row (suc (length cas)) ca.since ca ∷ ca_rows 1 cas) (ca_rows 1 (cas ++ ca ∷ []))
ca_added cas ca =
    let number : 1 + length cas ≡ suc (length cas) = omega arith in
    rw (ca_last 1 cas ca, number)
    (IsPermutation-sym _ _ (IsPermutation-to_front (ca_rows 1 cas) (ca_row (suc (length cas)) ca.since ca)))

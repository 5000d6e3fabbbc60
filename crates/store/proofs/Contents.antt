-- Migration from the contents of schema 1 to those of schema 2.
use Rattle.store.proofs.Words.{All, All-cons, All-nil, All-permutation, Bool, CaRow, Contents, Database, Err, List}
use Rattle.store.proofs.Words.{MeansWithoutCa, OfficeRow, Ok, WrongSchema, [], ap, arith, ca_cells, ca_of, false}
use Rattle.store.proofs.Words.{first_ca_row, if◌then◌else◌, length_permutation, map, migrated, refl, sym, true}
use Rattle.store.proofs.Words.{with_ca_row, with_schema, ◌==◌, ◌∙◌, ◌∷◌, ◌≡◌}
use Rattle.std.specs.Prelude.{IsPermutation}
use Rattle.office.specs.declared.store_fault.StoreFault.TheVariants.{Damaged}

-- without a table of CAs there is no CA
none_of : (cas : List CaRow) → IsPermutation (map ca_cells cas) [] → cas ≡ []
none_of [] p = refl
none_of (ca ∷ cas) p = absurd (let many = length_permutation (map ca_cells (ca ∷ cas)) [] p in omega arith)

pub no_cas : (db : Database) (c : Contents) → MeansWithoutCa db c → c.cas ≡ []
no_cas db c means = none_of c.cas means.holds.cas.same

-- the order of the rows doesn't matter
pub ca_same : (xs ys : List OfficeRow) → IsPermutation xs ys → ca_of xs ≡ ca_of ys
ca_same [] [] p = refl
ca_same [] (y ∷ ys) p = absurd (let many = length_permutation [] (y ∷ ys) p in omega arith)
ca_same (x ∷ []) [] p = absurd (let many = length_permutation (x ∷ []) [] p in omega arith)
ca_same (x ∷ []) (y ∷ []) p =
    let one : All (λ z. z ≡ x) (x ∷ []) = All-cons (λ z. z ≡ x) x [] refl (All-nil (λ z. z ≡ x)) in
    let same : y ≡ x = All-permutation (λ z. z ≡ x) (x ∷ []) (y ∷ []) p one 0 y (omega arith) in
    ap (λ (z : OfficeRow). ca_of (z ∷ [])) (sym same)
ca_same (x ∷ []) (y ∷ z ∷ ys) p = absurd (let many = length_permutation (x ∷ []) (y ∷ z ∷ ys) p in omega arith)
ca_same (x ∷ w ∷ xs) [] p = absurd (let many = length_permutation (x ∷ w ∷ xs) [] p in omega arith)
ca_same (x ∷ w ∷ xs) (y ∷ []) p = absurd (let many = length_permutation (x ∷ w ∷ xs) (y ∷ []) p in omega arith)
ca_same (x ∷ w ∷ xs) (y ∷ z ∷ ys) p = refl

one_of : (o : OfficeRow) (a b : Bool) (ca : CaRow)
    → (if a then (if b then Ok (first_ca_row o) else Err Damaged) else Err WrongSchema) ≡ Ok ca → first_ca_row o ≡ ca
one_of o true true ca e = cc
one_of o true false ca e = absurd cc
one_of o false b ca e = absurd cc

only_ca : (offices : List OfficeRow) (ca : CaRow) → ca_of offices ≡ Ok ca → map first_ca_row offices ≡ ca ∷ []
only_ca [] ca e = absurd cc
only_ca (o ∷ []) ca e = ap (λ (x : CaRow). x ∷ []) (one_of o (o.schema == 1) (o.id == 1) ca e)
only_ca (o ∷ p ∷ offices) ca e = absurd cc

-- inserting the rows gives the contents of schema 2
pub put_in : (c : Contents) (ca : CaRow) → ca_of c.offices ≡ Ok ca → c.cas ≡ []
    → with_schema 2 (with_ca_row ca c) ≡ migrated c
put_in c ca is none = ap (λ (cas : List CaRow). with_schema 2 (record c { cas = cas }))
    (ap (λ (cas : List CaRow). ca ∷ cas) none ∙ sym (only_ca c.offices ca is))

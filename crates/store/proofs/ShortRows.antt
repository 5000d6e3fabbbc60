-- Rows that are never too long: those of an office, of its first CA, and of a key ID.
use Rattle.store.proofs.Words.{Arrival, CaRow, Counters, IsHistory, IsLawful, IsOpening, IsTooLong, Kept, List}
use Rattle.store.proofs.Words.{OfficeRow, Opening, RefusesFirstCa, RefusesOpening, State, and_parts, arith, ca_cells}
use Rattle.store.proofs.Words.{contents_of, drop, first_ca_row, former_contents, inl, inr, is_name, key_blob}
use Rattle.store.proofs.Words.{key_id_cells, leb-true, length, length-drop, length-key_blob, list_all, nat_le}
use Rattle.store.proofs.Words.{office_cells, office_row, state_at, subst, true, ℕ, ◌≡◌, ◌≤◌}
use Rattle.values.specs.Names.{department_of, is_key_id, is_key_id_end, has_size, is_name_byte}
use Rattle.store.proofs.Lawful.{lawful_after}
use Rattle.store_sql.specs.Changes.{counted, renumbered}
use Rattle.store_sql.specs.Refusals.{RefusesCounters}
use Rattle.cert.proofs.Sizes.{key_id_end-le}

-- ---- the office

name_short : (t : List ℕ) → is_name t ≡ true → length t ≤ 32
name_short t is =
    leb-true (length t) 32 (and_parts (nat_le 1 (length t)) (nat_le (length t) 32)
    (and_parts (has_size 1 32 t) (list_all is_name_byte t) is).0).1

-- the key blob of a valid initial configuration, and its names
short : (o : Opening) → IsOpening o
    → (length (key_blob o.ca) ≤ 51) × (length o.root ≤ 32) × (length o.station ≤ 32)
short o is = (omega (arith, length-key_blob o.ca, is.ca), name_short o.root is.root, name_short o.station is.station)

-- the row of an office stays short
pub counters_fit : (k : Counters) (s : State) (kept : List Kept) → IsLawful s → RefusesCounters k (contents_of s kept)
    → ⊥
counters_fit k s kept lawful (o, inl same, (id, long)) =
    let long_row : IsTooLong (office_cells (counted k (office_row s))) =
    subst (λ (r : OfficeRow). IsTooLong (office_cells (counted k r))) same long in
    omega (arith, long_row, short s.opening lawful.opening)
counters_fit k s kept lawful (o, inr none, rest) = none

-- so do the rows of an initial configuration
pub opening_fits : (o : Opening) → IsOpening o → RefusesOpening o → ⊥
opening_fits o is (inl (inl (p, none, same))) = none
opening_fits o is (inl (inr long)) = omega (arith, long, short o is)
opening_fits o is (inr (inl (c, none, same))) = none
opening_fits o is (inr (inr long)) = omega (arith, long, short o is)

-- CA 1 is never refused in a file of schema 1
pub first_ca_fits : (o : Opening) (l : List Arrival) → IsHistory o l → RefusesFirstCa (former_contents o l) → ⊥
first_ca_fits o l history (ca, is, why) =
    let s = state_at (o, l) in
    let row = renumbered 1 (office_row s) in
    let fits = short s.opening (lawful_after o l history).opening in
    let same : ca ≡ first_ca_row row = cc in
    elim why [
      | inl (inl (d, none, taken)) ↦ none
      | inl (inr long) ↦
          (let long_row : IsTooLong (ca_cells (first_ca_row row)) =
          subst (λ (c : CaRow). IsTooLong (ca_cells c)) same long in
          omega (arith, long_row, fits))
      | inr (r, inl here, (id, long)) ↦
          (let long_row : IsTooLong (office_cells (renumbered 2 row)) =
          subst (λ (r : OfficeRow). IsTooLong (office_cells (renumbered 2 r))) here long in
          omega (arith, long_row, fits))
      | inr (r, inr none, rest) ↦ none
    ]

-- ---- a key ID

pub key_id_short : (t : List ℕ) → is_key_id t ≡ true → IsTooLong (key_id_cells t) → ⊥
key_id_short t is long =
    let parts = and_parts (is_name (department_of t)) (is_key_id_end (drop (length (department_of t)) t)) is in
    let name = name_short (department_of t) parts.0 in
    let rest = key_id_end-le (drop (length (department_of t)) t) parts.1 in
    let left = length-drop (length (department_of t)) t in
    omega (arith, name, rest, left, long)

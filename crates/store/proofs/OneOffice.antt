-- Reading the office's row gives the office back.
use Rattle.store.proofs.Words.{Contents, Fault, IsLawful, IsOpening, IsPermutation, IsRead, IsUnchanged, List, Means}
use Rattle.store.proofs.Words.{OfficeRow, Opening, Result, ShowsFromRows, Some, State, [], and_parts, ap, arith}
use Rattle.store.proofs.Words.{bytes_eq, contents_of, false, get_or, key_of_again, le-ltb, length, nat_lt, next_serial}
use Rattle.store.proofs.Words.{not-true, office_row, one_permutation, refl, subst, sym, true, ◌<◌, ◌∙◌, ◌∷◌, ◌≡◌, ◌≤◌}
use Rattle.sqlite.specs.State.{State as Connection}
use Rattle.store.specs.declared.rows.office_rows.Office.{Office}
use Rattle.store.specs.Offices.{IsOfficeOf, if_office, is_opening, office_in, only_office}
use Rattle.store.proofs.Sorting.{shows_read}

abbrev office_of_state : State → Office
office_of_state s = record { opening = s.opening; next = next_serial s; version = s.version; date = s.date }

of_state : (s : State) → IsOfficeOf (office_of_state s) s
of_state s = record { opening = refl; next = refl; version = refl; date = refl }

-- the office of a valid state is valid
pub office_passes : (s : State) (o : Office) → IsLawful s → IsOfficeOf o s → if_office o ≡ Some o
office_passes s o lawful is =
    let opening : IsOpening o.opening = subst IsOpening (sym is.opening) lawful.opening in
    let root = opening.root in
    let station = opening.station in
    let serials = opening.serials in
    let first : o.opening.first ≡ s.opening.first = ap (λ (x : Opening). x.first) is.opening in
    let after : nat_lt o.next o.opening.first ≡ false = le-ltb o.next o.opening.first (omega (arith, first, is.next)) in
    rw (root, station, opening.apart, serials, after) refl

only_again : (s : State) (rows : List OfficeRow) → IsLawful s → IsPermutation (office_row s ∷ []) rows
    → only_office rows ≡ Some (office_of_state s)
only_again s rows lawful same =
    ap only_office (one_permutation (office_row s) rows same)
    ∙ rw (key_of_again s.opening.ca lawful.opening.ca) (office_passes s (office_of_state s) lawful (of_state s))

-- the office of exactly one row is the value of that row
pub only_one : (rows : List OfficeRow) (row : OfficeRow) (r : Result Office Fault) → 1 ≤ length rows → length rows < 2
    → row ≡ get_or rows 0 row → IsRead (office_in row) r → IsRead (only_office rows) r
only_one [] row r some few is read = absurd (omega (arith, some))
only_one (x ∷ []) row r some few is read = subst (λ o. IsRead (office_in o) r) is read
only_one (x ∷ y ∷ rows) row r some few is read = absurd (omega (arith, few))

pub shows_office : (old new : Connection) (rows : List OfficeRow) (r : Result Office Fault)
    → ((c : Contents) → Means old.now c → IsUnchanged old new × IsPermutation c.offices rows)
    → IsRead (only_office rows) r → ShowsFromRows (λ s kept office. IsOfficeOf office s) old new r
shows_office old new rows r finds =
    shows_read (λ s kept office. IsOfficeOf office s) old new (only_office rows) r (λ s kept lawful means.
    let f = finds (contents_of s kept) means in (f.0, (office_of_state s, only_again s rows lawful f.1, of_state s)))

-- ---- the initial configuration

pub opening_from : (o : Opening) → length o.ca ≡ 32 → is_opening o ≡ true → IsOpening o
opening_from o size is =
    let a = and_parts _ _ is in
    let b = and_parts _ _ a.1 in
    let c = and_parts _ _ b.1 in
    record { ca = size; root = a.0; station = b.0; apart = not-true (bytes_eq o.root o.station) c.0; serials = c.1 }

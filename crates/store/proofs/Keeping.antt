-- The stored request with a given caller and request ID.
use Rattle.store.proofs.Words.{AreApart, Arrival, IsOneOf, Kept, List, None, Option, RequestRow, Some, State, []}
use Rattle.store.proofs.Words.{and_parts, ap, bytes_eq, bytes_eq-Decides, cases_Bool, cond, contents_of, false, filter}
use Rattle.store.proofs.Words.{filter-map, find, has_key, inl, inr, is_kept_for, is_some, list_any, map, option_map}
use Rattle.store.proofs.Words.{or_parts, refl, reply_kept, request_row, subst, true, ℕ, ◌∙◌, ◌∷◌, ◌≡◌}
use Rattle.store_sql.specs.Changes.{requests_for, is_request_for as row_for}
use Rattle.store.proofs.Found.{none_passes}
use Rattle.store.specs.Finding.{kept_in}
use Rattle.store.proofs.OneRow.{found_row, rows_of}

-- ---- at most one request has this caller and this request ID

others_apart : (caller key : List ℕ) (k : Kept) (kept : List Kept) → is_kept_for caller key k ≡ true
    → list_any (is_kept_for k.caller k.key) kept ≡ false → list_any (is_kept_for caller key) kept ≡ false
others_apart caller key k kept is apart =
    let parts = and_parts (bytes_eq k.caller caller) (bytes_eq k.key key) is in
    rw ((bytes_eq-Decides k.caller caller).0 parts.0, (bytes_eq-Decides k.key key).0 parts.1) at apart

one_kept : (caller key : List ℕ) (kept : List Kept) → AreApart kept
    → filter (row_for caller key) (map request_row kept) ≡ rows_of request_row (find (is_kept_for caller key) kept)
one_kept caller key [] apart = refl
one_kept caller key (k ∷ kept) apart = elim (cases_Bool (is_kept_for caller key k)) [
  | inl is ↦ rw is (ap (λ (l : List RequestRow). request_row k ∷ l) (filter-map (row_for caller key) request_row kept
      ∙ ap (map request_row) (none_passes (is_kept_for caller key) kept (others_apart caller key k kept is apart.0))))
  | inr is ↦ rw is (one_kept caller key kept apart.1)
]

back_again : (o : Option Kept) → option_map kept_in (option_map request_row o) ≡ o
back_again None = refl
back_again (Some k) = refl

-- the request found in the tables is the stored one
pub kept_found : (s : State) (kept : List Kept) (caller key : List ℕ) (found : Option RequestRow) → AreApart kept
    → IsOneOf (requests_for caller key (contents_of s kept)) found
    → option_map kept_in found ≡ find (is_kept_for caller key) kept
kept_found s kept caller key found apart is =
    ap (option_map kept_in) (found_row request_row (find (is_kept_for caller key) kept) found
    (subst (λ (l : List RequestRow). IsOneOf l found) (one_kept caller key kept apart) is))
    ∙ back_again (find (is_kept_for caller key) kept)

-- ---- its meaning for a received request

-- a request with the same caller and request ID is stored
pub known_by_kept : (a : Arrival) (kept : List Kept)
    → list_any (has_key a) kept ≡ is_some (find (is_kept_for a.caller a.key) kept)
known_by_kept a [] = refl
known_by_kept a (k ∷ kept) = elim (cases_Bool (has_key a k)) [
  | inl is ↦ rw is refl
  | inr is ↦ rw is (known_by_kept a kept)
]

-- its reply, if it was the same message
abbrev pub reply_of : Arrival → Option Kept → Option (List ℕ)
reply_of a None = None
reply_of a (Some k) = cond (bytes_eq k.bytes a.bytes) (Some k.reply) None

-- no stored request has its caller and request ID
pub no_repeat : (a : Arrival) (kept : List Kept) → list_any (has_key a) kept ≡ false → reply_kept kept a ≡ None
no_repeat a [] none = refl
no_repeat a (k ∷ kept) none =
    let parts = or_parts (has_key a k) (list_any (has_key a) kept) none in
    let first : has_key a k ≡ false = parts.0 in
    rw first (no_repeat a kept parts.1)

-- the reply to the same message
pub reply_by_kept : (a : Arrival) (kept : List Kept) → AreApart kept
    → reply_kept kept a ≡ reply_of a (find (is_kept_for a.caller a.key) kept)
reply_by_kept a [] apart = refl
reply_by_kept a (k ∷ kept) apart = elim (cases_Bool (has_key a k)) [
  | inl is ↦ rw is (elim (cases_Bool (bytes_eq k.bytes a.bytes)) [
    | inl same ↦ rw same refl
    | inr other ↦ rw other (no_repeat a kept (others_apart a.caller a.key k kept is apart.0))
  ])
  | inr is ↦ rw is (reply_by_kept a kept apart.1)
]

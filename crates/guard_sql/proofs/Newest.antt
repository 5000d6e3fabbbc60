-- The stored bodies, and their rows.
use Rattle.std.proofs.Common.{◌≡◌, ℕ, ◌<◌, ◌≤◌, ◌^◌, List, [], ◌∷◌, ◌++◌, Bool, true, false, Option, Some, None, inl, inr}
use Rattle.std.proofs.Common.{◌⊎◌, ap, sym, subst, refl, ◌∙◌, arith}
use Rattle.std.specs.Prelude.{Contains, filter, find, fold, ◌==◌}
use Rattle.std.specs.List.{AllByRecursion}
use Rattle.std.specs.Option.{option_map}
use Rattle.std.proofs.lemmas.Bool.{both_ways, cases_Bool, eqb-true, eq-eqb}
use Rattle.std.proofs.lemmas.List.Elements.{All-contains, All-contains_itself, All-from_recursion, recursion_from_All}
use Rattle.std.proofs.lemmas.List.Sums.{fold-append}
use Rattle.sqlite.specs.Tree.{Trees}
use Rattle.sqlite_rules.specs.Lists.{Has}
use Rattle.sqlite_rules.proofs.ListLemmas.{all_from, all_has, has_filtered, has_kept}
use Rattle.sqlite_trees.proofs.ListLemmas.{all-permutation}
use Rattle.guard.specs.declared.approved.Approved.{Approved}
use Rattle.guard.specs.State.{State, body_of}
use Rattle.guard.specs.Retiring.{IsFirstFrom as IsRowOf}
use Rattle.store_sql.specs.Calls.{IsOneOf}
use Rattle.guard_sql.specs.declared.approvals.ApprovalRow.{ApprovalRow}
use Rattle.guard_sql.specs.Changes.{has_serial}
use Rattle.guard_sql.specs.Contents.{Holds, IsFirstFrom}
use Rattle.guard_sql.specs.Rows.{approval_row, approved_in, guard_contents, newest_first}
use Rattle.guard_sql.proofs.ApprovalTable.{serial_apart}

abbrev onto : List ApprovalRow → List Approved → List ApprovalRow
onto rows l = fold (λ rs a. approval_row a ∷ rs) rows l

-- the row of one more body comes first
pub one_more : (l : List Approved) (a : Approved) → newest_first (l ++ a ∷ []) ≡ approval_row a ∷ newest_first l
one_more l a = fold-append (λ rs b. approval_row b ∷ rs) [] l (a ∷ [])

-- ---- each body has its row, and each row its body

stays : (l : List Approved) (rows : List ApprovalRow) (r : ApprovalRow) → Has rows r → Has (onto rows l) r
stays [] rows r here = here
stays (a ∷ l) rows r here = stays l (approval_row a ∷ rows) r (inr here)

put : (l : List Approved) (rows : List ApprovalRow) (a : Approved) → Has l a → Has (onto rows l) (approval_row a)
put (b ∷ l) rows a (inl same) = stays l (approval_row b ∷ rows) (approval_row a) (inl (ap approval_row same))
put (b ∷ l) rows a (inr later) = put l (approval_row b ∷ rows) a later
put [] rows a here = absurd here

abbrev IsRowIn : List Approved → ApprovalRow → Type 0
IsRowIn l r = (a : Approved) × Has l a × (r ≡ approval_row a)

one_of : (a : Approved) (l : List Approved) (rows : List ApprovalRow) (r : ApprovalRow)
    → Has (approval_row a ∷ rows) r ⊎ IsRowIn l r → Has rows r ⊎ IsRowIn (a ∷ l) r
one_of a l rows r (inl (inl same)) = inr (a, inl refl, same)
one_of a l rows r (inl (inr here)) = inl here
one_of a l rows r (inr it) = inr (it.0, inr it.1, it.2)

taken : (l : List Approved) (rows : List ApprovalRow) (r : ApprovalRow) → Has (onto rows l) r → Has rows r ⊎ IsRowIn l r
taken [] rows r here = inl here
taken (a ∷ l) rows r here = one_of a l rows r (taken l (approval_row a ∷ rows) r here)

pub row_has : (l : List Approved) (a : Approved) → Has l a → Has (newest_first l) (approval_row a)
row_has l a here = put l [] a here

pub body_has : (l : List Approved) (r : ApprovalRow) → Has (newest_first l) r → IsRowIn l r
body_has l r here = elim (taken l [] r here) [ inl none ↦ absurd none | inr it ↦ it ]

-- ---- the body of a serial

-- the first that passes a test, if any does
pub found_in : {X : Type 0} (p : X → Bool) (xs : List X)
    → ((x : X) × Has xs x × (p x ≡ true) × (find p xs ≡ Some x))
    ⊎ ((find p xs ≡ None) × AllByRecursion (λ x. p x ≡ false) xs)
found_in p [] = inr (refl, tt)
found_in p (x ∷ xs) = elim (cases_Bool (p x)) [
  | inl hit ↦ inl (x, inl refl, hit, rw hit refl)
  | inr miss ↦ elim (found_in p xs) [
    | inl it ↦ inl (it.0, inr it.1, it.2, rw miss it.3)
    | inr none ↦ inr (rw miss none.0, (miss, none.1))
  ]
]

own : (n : ℕ) → (n == n) ≡ true
own n = eq-eqb n n refl

-- if `body_of` finds none under a serial, none is stored under it
pub free : (s : State) (serial : ℕ) → body_of s serial ≡ None → (a : Approved) → Has s.approved a → a.serial ≡ serial → ⊥
free s serial none a here is = elim (found_in (λ b. b.serial == serial) s.approved) [
  | inl it ↦ (let wrong : None ≡ Some it.0.body = sym none ∙ ap (option_map (λ (b : Approved). b.body)) it.3 in cc)
  | inr missed ↦
      let miss = all_has (λ (b : Approved). (b.serial == serial) ≡ false) s.approved a missed.1 here in
      let hit : (a.serial == serial) ≡ true = eq-eqb a.serial serial is in
      absurd (both_ways _ miss hit)
]

-- a serial that no column can hold has no body
pub none_under : (s : State) (serial : ℕ) → AllByRecursion (λ a. a.serial < 2 ^ 63) s.approved → 2 ^ 63 ≤ serial
    → body_of s serial ≡ None
none_under s serial low high = elim (found_in (λ b. b.serial == serial) s.approved) [
  | inl it ↦
      let lt : it.0.serial < 2 ^ 63 = all_has (λ (b : Approved). b.serial < 2 ^ 63) s.approved it.0 low it.1 in
      let is : it.0.serial ≡ serial = eqb-true it.0.serial serial it.2 in
      absurd (omega (arith, lt, is, high))
  | inr missed ↦ ap (option_map (λ (b : Approved). b.body)) missed.0
]

abbrev passing : State → ℕ → List ApprovalRow
passing s serial = filter (has_serial serial) (newest_first s.approved)

-- a row that is found has its body, and passes
passes : (s : State) (serial : ℕ) (x : ApprovalRow) → IsOneOf (passing s serial) (Some x)
    → Has (newest_first s.approved) x × (has_serial serial x ≡ true)
passes s serial x one = has_filtered (has_serial serial) (newest_first s.approved) x
    (all_has (Has (passing s serial)) (x ∷ one.0) x (all-permutation (Has (passing s serial)) (passing s serial)
    (x ∷ one.0) one.1 (all_from (Has (passing s serial)) (passing s serial) (λ y k. k))) (inl refl))

abbrev IsFoundIn : State → ℕ → Type 0
IsFoundIn s serial =
    ((a : Approved) × Has s.approved a × ((a.serial == serial) ≡ true)
    × (find (λ b. b.serial == serial) s.approved ≡ Some a))
    ⊎ ((find (λ b. b.serial == serial) s.approved ≡ None)
    × AllByRecursion (λ a. (a.serial == serial) ≡ false) s.approved)

under_by : (s : State) (serial : ℕ) (trees : Trees) → Holds trees (guard_contents s) → (found : Option ApprovalRow)
    → IsOneOf (passing s serial) found → IsFoundIn s serial
    → option_map (λ (r : ApprovalRow). r.body) found ≡ body_of s serial
under_by s serial trees holds None none (inr missed) = sym (ap (option_map (λ (b : Approved). b.body)) missed.0)
under_by s serial trees holds None none (inl it) = absurd (subst (λ l. Has l (approval_row it.0)) none
    (has_kept (has_serial serial) (newest_first s.approved) (approval_row it.0) (row_has s.approved it.0 it.1) it.2))
under_by s serial trees holds (Some x) one (inl it) =
    let here = passes s serial x one in
    let same : x.serial ≡ it.0.serial = eqb-true x.serial serial here.1 ∙ sym (eqb-true it.0.serial serial it.2) in
    let equal = serial_apart trees (guard_contents s) holds x (approval_row it.0) here.0
    (row_has s.approved it.0 it.1) same in
    ap (λ (r : ApprovalRow). Some r.body) equal ∙ sym (ap (option_map (λ (b : Approved). b.body)) it.3)
under_by s serial trees holds (Some x) one (inr missed) =
    let here = passes s serial x one in
    let it = body_has s.approved x here.0 in
    let miss = all_has (λ (b : Approved). (b.serial == serial) ≡ false) s.approved it.0 missed.1 it.1 in
    let hit : (it.0.serial == serial) ≡ true =
    subst (λ (r : ApprovalRow). (r.serial == serial) ≡ true) it.2 here.1 in
    absurd (both_ways _ miss hit)

pub under : (s : State) (serial : ℕ) (trees : Trees) (found : Option ApprovalRow) → Holds trees (guard_contents s)
    → IsOneOf (passing s serial) found → option_map (λ r. r.body) found ≡ body_of s serial
under s serial trees found holds is =
    under_by s serial trees holds found is (found_in (λ b. b.serial == serial) s.approved)

-- ---- the row with the least serial from one on

has_contains : (l : List Approved) (a : Approved) → Has l a → Contains l a
has_contains l a here = all_has (Contains l) l a (recursion_from_All (Contains l) l (All-contains_itself l)) here

pub first : (s : State) (from : ℕ) (found : Option ApprovalRow) → IsFirstFrom from (newest_first s.approved) found
    → IsRowOf from s.approved (option_map approved_in found)
first s from None none = All-from_recursion (λ b. b.serial < from) s.approved (all_from _ s.approved
    (λ b here. all_has (λ (r : ApprovalRow). r.serial < from) (newest_first s.approved) (approval_row b) none
    (row_has s.approved b here)))
first s from (Some x) it =
    let a = body_has s.approved x it.0 in (
      subst (λ (r : ApprovalRow). Contains s.approved (approved_in r)) (sym a.2) (has_contains s.approved a.0 a.1),
      it.1,
      All-from_recursion (λ b. from ≤ b.serial → x.serial ≤ b.serial) s.approved (all_from _ s.approved
          (λ b here. all_has (λ (r : ApprovalRow). from ≤ r.serial → x.serial ≤ r.serial) (newest_first s.approved)
          (approval_row b) it.2 (row_has s.approved b here))),
    )

-- no serial that a column can hold is this one or higher
pub none_from : (s : State) (from : ℕ) → AllByRecursion (λ a. a.serial < 2 ^ 63) s.approved → 2 ^ 63 ≤ from
    → IsRowOf from s.approved None
none_from s from low high = All-from_recursion (λ b. b.serial < from) s.approved (all_from _ s.approved
    (λ b here. let lt = all_has (λ (c : Approved). c.serial < 2 ^ 63) s.approved b low here in omega (arith, lt, high)))

-- ---- one body for each serial

contains_has : (l : List Approved) (a : Approved) → Contains l a → Has l a
contains_has l a here =
    All-contains (Has l) l a (All-from_recursion (Has l) l (all_from (Has l) l (λ b there. there))) here

pub one_body : (s : State) (trees : Trees) → Holds trees (guard_contents s) → (a b : Approved)
    → Contains s.approved a → Contains s.approved b → a.serial ≡ b.serial → a ≡ b
one_body s trees holds a b has_a has_b same = ap approved_in (serial_apart trees (guard_contents s) holds
    (approval_row a) (approval_row b) (row_has s.approved a (contains_has s.approved a has_a))
    (row_has s.approved b (contains_has s.approved b has_b)) same)

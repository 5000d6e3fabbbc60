-- What holds after every list of questions.
use Rattle.std.proofs.Common.{◌≡◌, ℕ, List, [], ◌∷◌, ◌++◌, Bool, true, false, cond, Option, Some, None, refl, sym, ap, subst, ◌∙◌}
use Rattle.std.proofs.Common.{append_assoc, inl, inr, ◌⊎◌, arith}
use Rattle.std.specs.Prelude.{find, fold, All, Contains, ◌==◌}
use Rattle.std.specs.List.{AllByRecursion}
use Rattle.std.specs.Option.{option_map}
use Rattle.std.proofs.lemmas.Bool.{and_parts, eq-eqb, not-true}
use Rattle.std.proofs.lemmas.List.{append-nil}
use Rattle.std.proofs.lemmas.List.Sums.{fold-append}
use Rattle.std.proofs.lemmas.List.Elements.{All-push, All-nil, All-contains, All-from_recursion, Contains-push_cases}
use Rattle.cert.specs.declared.fields.CertFields.{CertFields}
use Rattle.guard.specs.declared.approved.Approved.{Approved}
use Rattle.guard.specs.declared.scope.Scope.{Scope}
use Rattle.guard.specs.Machine.{State, Question, opened, fields_of, body_of, refusal_of, row_of, after}
use Rattle.values.specs.Names.{name_of}
use Rattle.message.specs.Permissions.{are_listed, are_options_permitted, is_key_permitted, is_life_permitted, meet_rules}
use Rattle.guard.specs.SmallOrder.{has_weak_key}
use Rattle.guard.specs.History.{AddsNoSmallOrder, IsStill, KeyHasNoSmallOrder, MaySign, WasAsked, state}
use Rattle.guard.proofs.Allowed.{IsInScope, IsNew, kept_with_row, left_by, signed, signed_again}

-- a property that one more question preserves holds after all
module _ (P : List Question → State → Type 0)
    (keeps : (done : List Question) (q : Question) (s : State) → P done s → P (done ++ q ∷ []) (after s q)) where
  pub after_all : (done l : List Question) (s : State) → P done s → P (done ++ l) (fold after s l)
  after_all done [] s p = subst (λ (all : List Question). P all s) (sym (append-nil done)) p
  after_all done (q ∷ l) s p =
      subst (λ (all : List Question). P all (fold after (after s q) l)) (append_assoc done (q ∷ []) l)
      (after_all (done ++ q ∷ []) l (after s q) (keeps done q s p))

-- ---- kept bodies stay

one_stays : (first s : State) (q : Question) → IsStill first s → IsStill first (after s q)
one_stays first s q is =
    left_by (IsStill first) s q is
    (λ c new. (
      is.0 ++ row_of q c ∷ [],
      ap (λ (rows : List Approved). rows ++ row_of q c ∷ []) is.1
          ∙ append_assoc first.approved is.0 (row_of q c ∷ []),
    ))

all_stay : (first s : State) (later : List Question) → IsStill first s → IsStill first (fold after s later)
all_stay first s [] is = is
all_stay first s (q ∷ later) is = all_stay first (after s q) later (one_stays first s q is)

pub stays : (scope : Scope) (l later : List Question) → IsStill (state scope l) (state scope (l ++ later))
stays scope l later =
    let s = state scope l in
    subst (IsStill s) (sym (fold-append after (opened scope) l later))
    (all_stay s s later ([], sym (append-nil s.approved)))

-- ---- keys of small order

-- a body that may be signed has a key that hasn't small order
may_sign_order : (scope : Scope) (q : Question) (c : CertFields) → MaySign scope q c → has_weak_key c.key_type c.key ≡ false
may_sign_order scope q c may =
    let d = may.allowed.0 in
    let rules = and_parts (meet_rules d (name_of c.key_id) c.principals) _ may.allowed.2.permits in
    let options = and_parts (are_options_permitted d c.options) _ rules.1 in
    let extensions = and_parts (are_listed d.extensions c.extensions) _ options.1 in
    let life = and_parts (is_life_permitted d c.after c.before) _ extensions.1 in
    let type = and_parts (is_key_permitted d c.key_type) _ life.1 in
    not-true (has_weak_key c.key_type c.key) type.1

one_adds : (first s : State) (q : Question) → AddsNoSmallOrder first s → AddsNoSmallOrder first (after s q)
one_adds first s q (rows, is, are) =
    left_by (AddsNoSmallOrder first) s q (rows, is, are)
    (λ c new. (
      rows ++ row_of q c ∷ [],
      ap (λ (all : List Approved). all ++ row_of q c ∷ []) is
          ∙ append_assoc first.approved rows (row_of q c ∷ []),
      All-push KeyHasNoSmallOrder rows (row_of q c) are
          (record { fields = c; are = new.may.fields; order = may_sign_order s.scope q c new.may }),
    ))

all_add : (first s : State) (l : List Question) → AddsNoSmallOrder first s → AddsNoSmallOrder first (fold after s l)
all_add first s [] is = is
all_add first s (q ∷ l) is = all_add first (after s q) l (one_adds first s q is)

pub adds_no_small_order : (s : State) (l : List Question) → AddsNoSmallOrder s (fold after s l)
adds_no_small_order s l = all_add s s l ([], sym (append-nil s.approved), All-nil KeyHasNoSmallOrder)

-- ---- kept bodies were asked for

is_asked_still : (scope : Scope) (l : List Question) (q : Question) (a : Approved) → WasAsked scope l a
    → WasAsked scope (l ++ q ∷ []) a
is_asked_still scope l q a (before, asked, later, c, e, may, is) = (
  before,
  asked,
  later ++ q ∷ [],
  c,
  ap (λ (xs : List Question). xs ++ q ∷ []) e
      ∙ append_assoc before (asked ∷ later) (q ∷ []),
  may,
  is,
)

record AreAsked (scope : Scope) (l : List Question) (s : State) : Type 0 where
  same : s.scope ≡ scope
  rows : All (WasAsked scope l) s.approved

asked_next : (scope : Scope) (l : List Question) (q : Question) (s : State) → AreAsked scope l s
    → AreAsked scope (l ++ q ∷ []) (after s q)
asked_next scope l q s are =
    let still : All (WasAsked scope (l ++ q ∷ [])) s.approved =
    λ k d within. is_asked_still scope l q _ (are.rows k d within) in
    left_by (AreAsked scope (l ++ q ∷ [])) s q
    (record { same = are.same; rows = still })
    (λ c new. record {
      same = are.same;
      rows = All-push (WasAsked scope (l ++ q ∷ [])) s.approved (row_of q c) still
          (l, q, [], c, refl, subst (λ (x : Scope). MaySign x q c) are.same new.may, refl);
    })

pub asked : (scope : Scope) (l : List Question) → All (WasAsked scope l) (state scope l).approved
asked scope l =
    (after_all (AreAsked scope) (asked_next scope) [] l (opened scope)
    (record { same = refl; rows = All-nil (WasAsked scope []) })).rows

-- ---- one body per serial

unfound : {X : Type 0} (p : X → Bool) (xs : List X) → find p xs ≡ None → AllByRecursion (λ x. p x ≡ false) xs
unfound p [] e = tt
unfound p (x ∷ xs) e = let r = by_test (p x) e in (r.0, unfound p xs r.1)
  where
    by_test : (b : Bool) → cond b (Some x) (find p xs) ≡ None → (b ≡ false) × (find p xs ≡ None)
    by_test true e = absurd cc
    by_test false e = (refl, e)

none_found : (o : Option Approved) → option_map (λ a. a.body) o ≡ None → o ≡ None
none_found None e = refl
none_found (Some a) e = absurd cc

-- a serial without a kept body is that of no row
is_free : (s : State) (serial : ℕ) → body_of s serial ≡ None → (a : Approved) → Contains s.approved a
    → a.serial ≡ serial → ⊥
is_free s serial none a has same =
    let p : Approved → Bool = λ a. a.serial == serial in
    let other = All-contains (λ a. p a ≡ false) s.approved a
    (All-from_recursion (λ a. p a ≡ false) s.approved (unfound p s.approved (none_found _ none))) has in
    let is = eq-eqb a.serial serial same in absurd cc

abbrev AreOnce : State → Type 0
AreOnce s = (a b : Approved) → Contains s.approved a → Contains s.approved b → a.serial ≡ b.serial → a ≡ b

once_next : (s : State) (q : Question) → AreOnce s → AreOnce (after s q)
once_next s q once = left_by AreOnce s q once (λ c new a b has_a has_b same.
    by_place c new a b same (Contains-push_cases s.approved (row_of q c) a has_a) (Contains-push_cases s.approved (row_of q c) b has_b))
  where
    by_place : (c : CertFields) → IsNew s q c → (a b : Approved) → a.serial ≡ b.serial
        → Contains s.approved a ⊎ (row_of q c ≡ a) → Contains s.approved b ⊎ (row_of q c ≡ b) → a ≡ b
    by_place c new a b same (inl x) (inl y) = once a b x y same
    by_place c new a b same (inl x) (inr y) =
        absurd (is_free s c.serial new.kept a x (same ∙ ap (λ (r : Approved). r.serial) (sym y)))
    by_place c new a b same (inr x) (inl y) =
        absurd (is_free s c.serial new.kept b y (sym same ∙ ap (λ (r : Approved). r.serial) (sym x)))
    by_place c new a b same (inr x) (inr y) = sym x ∙ y

all_once : (s : State) (l : List Question) → AreOnce s → AreOnce (fold after s l)
all_once s [] once = once
all_once s (q ∷ l) once = all_once (after s q) l (once_next s q once)

pub once : (scope : Scope) (l : List Question) → AreOnce (state scope l)
once scope l = all_once (opened scope) l (λ a b has_a has_b same. absurd (omega (arith, has_a.1)))

-- ---- a body that may be signed may be signed again

-- a body that is kept under a serial is still kept after one more question
pub one_kept : (serial : ℕ) (body : List ℕ) (s : State) (q : Question) → body_of s serial ≡ Some body
    → body_of (after s q) serial ≡ Some body
one_kept serial body s q kept =
    left_by (λ x. body_of x serial ≡ Some body) s q kept (λ c new. kept_with_row s q c serial body kept)

all_kept : (serial : ℕ) (body : List ℕ) (s : State) (l : List Question) → body_of s serial ≡ Some body
    → body_of (fold after s l) serial ≡ Some body
all_kept serial body s [] kept = kept
all_kept serial body s (q ∷ l) kept = all_kept serial body (after s q) l (one_kept serial body s q kept)

scope_stays : (scope : Scope) (l : List Question) → (state scope l).scope ≡ scope
scope_stays scope l =
    (after_all (AreAsked scope) (asked_next scope) [] l (opened scope)
    (record { same = refl; rows = All-nil (WasAsked scope []) })).same

pub again : (scope : Scope) (l later : List Question) (q next : Question) → refusal_of (state scope l) q ≡ None
    → next.body ≡ q.body → refusal_of (state scope (l ++ q ∷ later)) next ≡ None
again scope l later q next none same =
    let s = state scope l in
    let is = signed s q none in
    let c = is.0 in
    let left = fold-append after (opened scope) l (q ∷ later) in
    let kept : body_of (state scope (l ++ q ∷ later)) c.serial ≡ Some q.body =
    ap (λ (x : State). body_of x c.serial) left ∙ all_kept c.serial q.body (after s q) later is.1.kept in
    let scopes : s.scope ≡ (state scope (l ++ q ∷ later)).scope =
    scope_stays scope l ∙ sym (scope_stays scope (l ++ q ∷ later)) in
    signed_again (state scope (l ++ q ∷ later)) next c (ap fields_of same ∙ is.1.fields)
    (subst (λ (x : Scope). IsInScope x c) scopes is.1.scope) (kept ∙ ap Some (sym same))

-- Lowering a last serial.
use Rattle.std.proofs.Common.{◌≡◌, ◌+◌, ◌<◌, ◌≤◌, ◌||◌, ◌==◌, ℕ, List, [], ◌∷◌, Bool, true, false, cond, Option, Some, None, Ok, Err}
use Rattle.std.proofs.Common.{All, arith, refl, sym, subst}
use Rattle.std.specs.Prelude.{find, nat_lt}
use Rattle.std.specs.List.{list_any}
use Rattle.std.specs.Option.{option_map}
use Rattle.std.proofs.lemmas.List.Folds.{list_any_none}
use Rattle.cert.specs.declared.fields.CertFields.{CertFields}
use Rattle.guard.specs.declared.approved.Approved.{Approved}
use Rattle.guard.specs.declared.retiring.RetireFault.TheVariants.{BadSerials, SerialApproved}
use Rattle.guard.specs.Machine.{State, Question, body_of, fields_of, refusal_of}
use Rattle.guard.specs.Retirement.{is_approved_over, retirement}
use Rattle.guard.specs.Retiring.{with_last}
use Rattle.guard.proofs.Allowed.{IsInScope, signed, signed_again}

-- ---- bodies approved above a serial

pub none_over : (s : State) (last : ℕ) → All (λ b. b.serial < last + 1) s.approved → is_approved_over s last ≡ false
none_over s last below = list_any_none (λ a. nat_lt last a.serial) s.approved
    (λ k d within. let low = below k d within in grind (arith))

-- if no body is approved above the last serial, then an approved body's serial isn't above it
within : (rows : List Approved) (serial last : ℕ) (a : Approved) → find (λ a. a.serial == serial) rows ≡ Some a
    → list_any (λ a. nat_lt last a.serial) rows ≡ false → serial ≤ last
within [] serial last a found none = absurd cc
within (r ∷ rows) serial last a found none =
    by_test (λ e n. within rows serial last a e n) (r.serial == serial) refl found (rest (nat_lt last r.serial) refl none)
  where
    rest : (b : Bool) → nat_lt last r.serial ≡ b → b || list_any (λ a. nat_lt last a.serial) rows ≡ false
        → (nat_lt last r.serial ≡ false) × (list_any (λ a. nat_lt last a.serial) rows ≡ false)
    rest true is e = absurd cc
    rest false is e = (is, e)

    by_test : (find (λ a. a.serial == serial) rows ≡ Some a → list_any (λ a. nat_lt last a.serial) rows ≡ false → serial ≤ last)
        → (b : Bool) → (r.serial == serial) ≡ b → cond b (Some r) (find (λ a. a.serial == serial) rows) ≡ Some a
        → (nat_lt last r.serial ≡ false) × (list_any (λ a. nat_lt last a.serial) rows ≡ false) → serial ≤ last
    by_test later true is found none = let low = none.0 in grind (arith)
    by_test later false is found none = later found none.1

kept_within : (s : State) (serial last : ℕ) (body : List ℕ) → body_of s serial ≡ Some body → is_approved_over s last ≡ false
    → serial ≤ last
kept_within s serial last body kept none = go (find (λ a. a.serial == serial) s.approved) refl kept
  where
    go : (o : Option Approved) → find (λ a. a.serial == serial) s.approved ≡ o → option_map (λ a. a.body) o ≡ Some body
        → serial ≤ last
    go (Some a) found e = within s.approved serial last a found none
    go None found e = absurd cc

-- ---- the retired state

record IsRetired (s retired : State) (last : ℕ) : Type 0 where
  same : retired ≡ with_last s last
  none : is_approved_over s last ≡ false

retired_is : (s retired : State) (last : ℕ) → retirement s last ≡ Ok retired → IsRetired s retired last
retired_is s retired last e = by_range (nat_lt last s.scope.first || nat_lt s.scope.last last) e
  where
    by_over : (b : Bool) → is_approved_over s last ≡ b → cond b (Err SerialApproved) (Ok (with_last s last)) ≡ Ok retired
        → IsRetired s retired last
    by_over true over e = absurd cc
    by_over false over e = let is : with_last s last ≡ retired = cc in record { same = sym is; none = over }

    by_range : (b : Bool)
        → cond b (Err BadSerials) (cond (is_approved_over s last) (Err SerialApproved) (Ok (with_last s last))) ≡ Ok retired
        → IsRetired s retired last
    by_range true e = absurd cc
    by_range false e = by_over (is_approved_over s last) refl e

in_scope : (s : State) (last : ℕ) (c : CertFields) → IsInScope s.scope c → c.serial ≤ last → IsInScope (with_last s last).scope c
in_scope s last c is low = grind (arith)

pub signs_again : (s retired : State) (last : ℕ) (q : Question) (c : CertFields) → retirement s last ≡ Ok retired
    → fields_of q.body ≡ Some c → body_of s c.serial ≡ Some q.body → refusal_of s q ≡ None → refusal_of retired q ≡ None
signs_again s retired last q c e fields kept none =
    let is = retired_is s retired last e in
    let was = signed s q none in
    let same : was.0 ≡ c = cc in
    let low = kept_within s c.serial last q.body kept is.none in
    let scope = in_scope s last c (subst (IsInScope s.scope) same was.1.scope) low in
    subst (λ (t : State). refusal_of t q ≡ None) (sym is.same) (signed_again (with_last s last) q c fields scope kept)

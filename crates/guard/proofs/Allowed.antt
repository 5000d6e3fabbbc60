-- What is known about an unsigned certificate (body) that isn't refused, and about the state after a question.
use Rattle.std.proofs.Common.{◌+◌, ◌≡◌, ℕ, List, [], ◌∷◌, Bool, true, false, cond, Option, Some, None, refl, sym, ap, subst, ◌∙◌}
use Rattle.std.specs.Prelude.{nat_le, not, is_some, is_none, find, nat_lt, ◌||◌, ◌==◌}
use Rattle.std.specs.List.{AllByRecursion}
use Rattle.std.specs.Option.{option_map, option_map_or, option_or}
use Rattle.std.specs.Str.{bytes_eq}
use Rattle.std.proofs.lemmas.Bool.{le-ltb, lt-leb, not-false, or_parts, ltb-false, leb-false, eq-eqb}
use Rattle.std.proofs.lemmas.List.Folds.{find-append}
use Rattle.std.proofs.lemmas.Slice.Eq.{bytes_eq-Decides}
use Rattle.values.specs.Names.{department_of}
use Rattle.values.specs.declared.kind.Kind.{Kind}
use Rattle.message.specs.declared.department.Department.{Department}
use Rattle.cert.specs.declared.fields.CertFields.{CertFields}
use Rattle.values.specs.Kinds.{same_kind}
use Rattle.values.proofs.KindLemmas.{same_kind_is, same_kind_itself}
use Rattle.message.specs.Permissions.{has_other_kind, is_missing}
use Rattle.guard.specs.declared.approved.Approved.{Approved}
use Rattle.guard.specs.declared.refusal.Refusal.{Refusal}
use Rattle.guard.specs.declared.refusal.Refusal.TheVariants.{NotABody, OtherCa, OtherSerial}
use Rattle.guard.specs.Machine.{permits, State, Question, fields_of, department_named, department_for, body_of, is_same, is_other}
use Rattle.guard.specs.Machine.{is_permitted_by, refusals_of_new, refusals_of_body, first_holding, refusal_of, row_of, with_approved, with_fields, after}
use Rattle.guard.specs.declared.scope.Scope.{Scope}
use Rattle.guard.specs.History.{Allows, MaySign}

-- if no refusal applies, each test is false
pub none_holds : (rs : List (Refusal × Bool)) → first_holding rs ≡ None → AllByRecursion (λ r. r.1 ≡ false) rs
none_holds [] e = tt
none_holds (r ∷ rs) e =
    let p = by_test r.1 (first_holding rs) r.0 e in (p.0, none_holds rs p.1)
  where
    by_test : (b : Bool) (rest : Option Refusal) (x : Refusal) → cond b (Some x) rest ≡ None → (b ≡ false) × (rest ≡ None)
    by_test true rest x e = absurd cc
    by_test false rest x e = (refl, e)

-- if there is neither this body nor a different one, there is none
none_kept : (body : List ℕ) (kept : Option (List ℕ)) → is_same body kept ≡ false → is_other body kept ≡ false → kept ≡ None
none_kept body None same other = refl
none_kept body (Some b) same other = absurd (by_test (bytes_eq b body) same other)
  where
    by_test : (t : Bool) → t ≡ false → not t ≡ false → ⊥
    by_test true e f = absurd cc
    by_test false e f = absurd cc

-- an item that is found passes the test
found_passes : {X : Type 0} (p : X → Bool) (xs : List X) (x : X) → find p xs ≡ Some x → p x ≡ true
found_passes p [] x e = absurd cc
found_passes p (y ∷ ys) x e = by_test (found_passes p ys x) (p y) refl e
  where
    by_test : (find p ys ≡ Some x → p x ≡ true) → (b : Bool) → p y ≡ b → cond b (Some y) (find p ys) ≡ Some x → p x ≡ true
    by_test rest true is e = let same : y ≡ x = cc in subst (λ z. p z ≡ true) same is
    by_test rest false is e = rest e

-- the department of a body that isn't refused
department_there : (policy : List Department) (c : CertFields) (o : Option Department) → department_for policy c ≡ o
    → is_missing o ≡ false → has_other_kind o c.kind ≡ false → not (is_permitted_by o c) ≡ false
    → (d : Department) × (department_named policy (department_of c.key_id) ≡ Some d) × Allows d c
department_there policy c None e missing kind permitted = absurd cc
department_there policy c (Some d) e missing kind permitted = (
  d,
  e,
  record {
    name = (bytes_eq-Decides d.name (department_of c.key_id)).0 (found_passes _ policy d e);
    kind = same_kind_is d.kind c.kind (not-false _ kind);
    permits = not-false _ permitted;
  },
)

abbrev is_outside : Scope → CertFields → Bool
is_outside scope c = nat_lt c.serial scope.first || nat_lt scope.last c.serial

-- a body that is to be kept: it may be signed, and none is kept under its serial
pub record IsNew (s : State) (q : Question) (c : CertFields) : Type 0 where
  pub may : MaySign s.scope q c
  pub kept : body_of s c.serial ≡ None

is_new : (s : State) (q : Question) (c : CertFields) → fields_of q.body ≡ Some c → is_same q.body (body_of s c.serial) ≡ false
    → first_holding ((OtherCa, not (bytes_eq c.ca s.scope.ca)) ∷ (OtherSerial, is_outside s.scope c) ∷ refusals_of_new s q c) ≡ None → IsNew s q c
is_new s q c fields same e =
    let r = none_holds ((OtherCa, not (bytes_eq c.ca s.scope.ca)) ∷ (OtherSerial, is_outside s.scope c) ∷ refusals_of_new s q c) e in
    let range = or_parts _ _ r.1.0 in
    let later = r.1.1 in
    record {
      may = record {
        fields = fields;
        ca = (bytes_eq-Decides c.ca s.scope.ca).0 (not-false _ r.0);
        from_first = ltb-false _ _ range.0;
        to_last = ltb-false _ _ range.1;
        allowed = department_there q.policy c (department_for q.policy c) refl later.1.0 later.1.1.0 later.1.1.1.0;
        lasts = leb-false _ _ later.1.1.1.1.0;
        begins = ltb-false _ _ later.1.1.1.1.1.0;
      };
      kept = none_kept q.body (body_of s c.serial) same later.0;
    }

-- what holds for the state, and for it with a body that is to be kept, holds for the state after the question
module _ (P : State → Type 0) (s : State) (q : Question) (as_before : P s)
    (with_one_more : (c : CertFields) → IsNew s q c → P (with_approved s (row_of q c))) where
  by_same : (c : CertFields) (b : Bool) → fields_of q.body ≡ Some c → is_same q.body (body_of s c.serial) ≡ b
      → first_holding ((OtherCa, not (bytes_eq c.ca s.scope.ca)) ∷ (OtherSerial, is_outside s.scope c) ∷ cond b [] (refusals_of_new s q c)) ≡ None
      → P (cond b s (with_approved s (row_of q c)))
  by_same c true fields same e = as_before
  by_same c false fields same e = with_one_more c (is_new s q c fields same e)

  by_fields : (o : Option CertFields) → fields_of q.body ≡ o
      → first_holding ((NotABody, is_none o) ∷ option_map_or (λ c. refusals_of_body s q c) o []) ≡ None → P (with_fields s q o)
  by_fields None fields e = as_before
  by_fields (Some c) fields e = by_same c _ fields refl e

  by_refusal : (r : Option Refusal) → refusal_of s q ≡ r → P (cond (is_some r) s (with_fields s q (fields_of q.body)))
  by_refusal (Some r) e = as_before
  by_refusal None e = by_fields (fields_of q.body) refl e

  pub left_by : P (after s q)
  left_by = by_refusal (refusal_of s q) refl

-- ---- a body that may be signed is kept

-- a body with these fields is refused neither for its CA nor for its serial
abbrev pub IsInScope : Scope → CertFields → Type 0
IsInScope scope c =
    first_holding ((OtherCa, not (bytes_eq c.ca scope.ca)) ∷ (OtherSerial, is_outside scope c) ∷ []) ≡ None

pub record IsSigned (s : State) (body : List ℕ) (c : CertFields) (left : State) : Type 0 where
  pub fields : fields_of body ≡ Some c
  pub scope : IsInScope s.scope c
  pub kept : body_of left c.serial ≡ Some body

same_is : (body : List ℕ) (kept : Option (List ℕ)) → is_same body kept ≡ true → kept ≡ Some body
same_is body None e = absurd cc
same_is body (Some b) e = ap Some ((bytes_eq-Decides b body).0 e)

in_scope : (ca serial : Bool) (rest : List (Refusal × Bool))
    → first_holding ((OtherCa, ca) ∷ (OtherSerial, serial) ∷ rest) ≡ None
    → first_holding ((OtherCa, ca) ∷ (OtherSerial, serial) ∷ []) ≡ None
in_scope false false rest e = refl
in_scope true serial rest e = absurd cc
in_scope false true rest e = absurd cc

-- a body found in the rows is also found with one more row; if none is, then the new row's is, if it has the serial
pub kept_with_row : (s : State) (q : Question) (c : CertFields) (serial : ℕ) (body : List ℕ) → body_of s serial ≡ Some body
    → body_of (with_approved s (row_of q c)) serial ≡ Some body
kept_with_row s q c serial body kept =
    let p : Approved → Bool = λ a. a.serial == serial in
    let with_more : Option Approved → Option (List ℕ) = λ o. option_map (λ a. a.body) (option_or o (find p (row_of q c ∷ []))) in
    ap (option_map (λ a. a.body)) (find-append p s.approved (row_of q c ∷ []))
    ∙ found (find p s.approved) (find p (row_of q c ∷ [])) body kept
  where
    found : (o other : Option Approved) (body : List ℕ) → option_map (λ a. a.body) o ≡ Some body
        → option_map (λ a. a.body) (option_or o other) ≡ Some body
    found (Some a) other body e = e
    found None other body e = absurd cc

new_with_row : (s : State) (q : Question) (c : CertFields) → body_of s c.serial ≡ None
    → body_of (with_approved s (row_of q c)) c.serial ≡ Some q.body
new_with_row s q c none =
    let p : Approved → Bool = λ a. a.serial == c.serial in
    let itself : p (row_of q c) ≡ true = eq-eqb c.serial c.serial refl in
    ap (option_map (λ a. a.body)) (find-append p s.approved (row_of q c ∷ []))
    ∙ found (find p s.approved) (p (row_of q c)) (row_of q c) none itself
  where
    found : (o : Option Approved) (b : Bool) (a : Approved) → option_map (λ a. a.body) o ≡ None → b ≡ true
        → option_map (λ a. a.body) (option_or o (cond b (Some a) None)) ≡ Some a.body
    found None true a e is = refl
    found None false a e is = absurd cc
    found (Some x) b a e is = absurd cc

module _ (s : State) (q : Question) (none : refusal_of s q ≡ None) where
  signed_same : (c : CertFields) (b : Bool) → fields_of q.body ≡ Some c → is_same q.body (body_of s c.serial) ≡ b
      → first_holding ((OtherCa, not (bytes_eq c.ca s.scope.ca)) ∷ (OtherSerial, is_outside s.scope c) ∷ cond b [] (refusals_of_new s q c)) ≡ None
      → IsSigned s q.body c (cond b s (with_approved s (row_of q c)))
  signed_same c true fields same e = record {
    fields = fields;
    scope = in_scope _ _ [] e;
    kept = same_is q.body (body_of s c.serial) same;
  }
  signed_same c false fields same e = record {
    fields = fields;
    scope = in_scope _ _ (refusals_of_new s q c) e;
    kept = new_with_row s q c (is_new s q c fields same e).kept;
  }

  signed_fields : (o : Option CertFields) → fields_of q.body ≡ o
      → first_holding ((NotABody, is_none o) ∷ option_map_or (λ c. refusals_of_body s q c) o []) ≡ None
      → (c : CertFields) × IsSigned s q.body c (with_fields s q o)
  signed_fields None fields e = absurd cc
  signed_fields (Some c) fields e = (c, signed_same c _ fields refl e)

  pub signed : (c : CertFields) × IsSigned s q.body c (after s q)
  signed =
      let is = signed_fields (fields_of q.body) refl none in
      let left : after s q ≡ with_fields s q (fields_of q.body) =
      ap (λ (r : Option Refusal). cond (is_some r) s (with_fields s q (fields_of q.body))) none in
      (is.0, subst (IsSigned s q.body is.0) (sym left) is.1)

-- a body that isn't refused is kept under its serial afterwards
pub signed_kept : (s : State) (q : Question) (c : CertFields) → refusal_of s q ≡ None → fields_of q.body ≡ Some c
    → body_of (after s q) c.serial ≡ Some q.body
signed_kept s q c none fields =
    let is = signed s q none in
    let same : is.0 ≡ c = same_some (sym is.1.fields ∙ fields) in
    subst (λ (x : CertFields). body_of (after s q) x.serial ≡ Some q.body) same is.1.kept
  where
    same_some : {x y : CertFields} → Some x ≡ Some y → x ≡ y
    same_some e = cc

-- a kept body may be signed, whatever the policy and the time
pub signed_again : (s : State) (q : Question) (c : CertFields) → fields_of q.body ≡ Some c → IsInScope s.scope c
    → body_of s c.serial ≡ Some q.body → refusal_of s q ≡ None
signed_again s q c fields scope kept =
    let same : bytes_eq q.body q.body ≡ true = (bytes_eq-Decides q.body q.body).1 refl in
    rw (fields, kept, same) scope

-- ---- a body that may be signed isn't refused

pub approved_if_new : (s : State) (q : Question) (c : CertFields) → MaySign s.scope q c → body_of s c.serial ≡ None
    → refusal_of s q ≡ None
approved_if_new s q c may none =
    let d = may.allowed.0 in
    let ca : bytes_eq c.ca s.scope.ca ≡ true = (bytes_eq-Decides c.ca s.scope.ca).1 may.ca in
    let first : nat_lt c.serial s.scope.first ≡ false = le-ltb _ _ may.from_first in
    let last : nat_lt s.scope.last c.serial ≡ false = le-ltb _ _ may.to_last in
    let there : department_for q.policy c ≡ Some d = may.allowed.1 in
    let kind : same_kind d.kind c.kind ≡ true =
    subst (λ (k : Kind). same_kind d.kind k ≡ true) may.allowed.2.kind (same_kind_itself d.kind) in
    let permitted : permits d c ≡ true = may.allowed.2.permits in
    let lasts : nat_le c.before q.moment ≡ false = lt-leb _ _ may.lasts in
    let begins : nat_lt (q.moment + q.ahead) c.after ≡ false = le-ltb _ _ may.begins in
    rw (may.fields, ca, first, last, none, there, kind, permitted, lasts, begins) refl

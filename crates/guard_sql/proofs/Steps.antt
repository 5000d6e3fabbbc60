-- What holds of a guard after any steps.
use Rattle.std.proofs.Common.{◌≡◌, ◌≤◌, ◌++◌, ◌∷◌, ◌∙◌, ◌||◌, [], ℕ, All, Bool, List, Option, Some, None, Result, Ok}
use Rattle.std.proofs.Common.{Err, ap, append_assoc, arith, cond, false, refl, subst, sym, true}
use Rattle.std.specs.Prelude.{Contains, ◌==◌, find, fold, nat_lt}
use Rattle.std.specs.List.{list_any}
use Rattle.std.specs.Option.{option_map, option_or}
use Rattle.std.proofs.lemmas.Bool.{eq-eqb, ltb-false, or_parts}
use Rattle.std.proofs.lemmas.List.{append-nil}
use Rattle.std.proofs.lemmas.List.Elements.{All-append, All-cons, All-contains, All-nil, All-push}
use Rattle.std.proofs.lemmas.List.Elements.{All-weaker}
use Rattle.std.proofs.lemmas.List.Folds.{find-append}
use Rattle.std.proofs.lemmas.List.Sums.{fold-append}
use Rattle.cert.specs.declared.fields.CertFields.{CertFields}
use Rattle.guard.specs.declared.approved.Approved.{Approved}
use Rattle.guard.specs.declared.retiring.RetireFault.{RetireFault}
use Rattle.guard.specs.declared.retiring.RetireFault.TheVariants.{BadSerials, SerialApproved}
use Rattle.guard.specs.Machine.{State, Question, after, body_of, fields_of, refusal_of, row_of, with_approved}
use Rattle.guard.specs.Retirement.{if_retired, is_approved_over, retirement}
use Rattle.guard.specs.Retiring.{IsLowered, with_last}
use Rattle.guard.specs.declared.scope.Scope.{Scope}
use Rattle.guard.proofs.Allowed.{IsInScope, IsNew, kept_with_row, left_by, signed, signed_again}
use Rattle.guard.proofs.Retired.{signs_again}
use Rattle.guard_sql.specs.Steps.{AddsAsked, IsLater, Step, WasAskedFrom, WasAskedIn, guard_after, next_guard}
use Rattle.guard_sql.specs.Steps.{stepped}

-- ---- a retirement

abbrev is_beyond : State → ℕ → Bool
is_beyond s last = nat_lt last s.scope.first || nat_lt s.scope.last last

is_lowered : (s : State) (last : ℕ) → is_beyond s last ≡ false → IsLowered s last
is_lowered s last e = let range = or_parts _ _ e in (ltb-false _ _ range.0, ltb-false _ _ range.1)

-- the retired state has the new last serial, and no body above it
record IsRetired (s retired : State) (last : ℕ) : Type 0 where
  same : retired ≡ with_last s last
  none : is_approved_over s last ≡ false

retired_is : (s retired : State) (last : ℕ) → retirement s last ≡ Ok retired → IsRetired s retired last
retired_is s retired last e = by_range (is_beyond s last) e
  where
    by_over : (b : Bool) → is_approved_over s last ≡ b
        → cond b (Err SerialApproved) (Ok (with_last s last)) ≡ Ok retired → IsRetired s retired last
    by_over true over e = absurd cc
    by_over false over e = let is : with_last s last ≡ retired = cc in record { same = sym is; none = over }

    by_range : (b : Bool)
        → cond b (Err BadSerials) (cond (is_approved_over s last) (Err SerialApproved) (Ok (with_last s last)))
        ≡ Ok retired → IsRetired s retired last
    by_range true e = absurd cc
    by_range false e = by_over (is_approved_over s last) refl e

none_above : (last : ℕ) (rows : List Approved) → list_any (λ (a : Approved). nat_lt last a.serial) rows ≡ false
    → All (λ (a : Approved). a.serial ≤ last) rows
none_above last [] e = All-nil (λ (a : Approved). a.serial ≤ last)
none_above last (row ∷ rows) e =
    let parts = or_parts _ _ e in
    All-cons (λ (a : Approved). a.serial ≤ last) row rows (ltb-false _ _ parts.0) (none_above last rows parts.1)

-- ---- one step

-- What holds for a state holds after a step, if it holds with one more body that may be signed, and with a lower last
-- serial.
module _ (P : State → Type 0) (s : State) (as_before : P s) where
  by_over : (last : ℕ) → P (with_last s last) → (b : Bool)
      → P (if_retired s (cond b (Err SerialApproved) (Ok (with_last s last))))
  by_over last lower true = as_before
  by_over last lower false = lower

  by_retiring : (last : ℕ) → (IsLowered s last → P (with_last s last)) → (b : Bool) → is_beyond s last ≡ b
      → P (if_retired s (cond b (Err BadSerials) (cond (is_approved_over s last) (Err SerialApproved)
      (Ok (with_last s last)))))
  by_retiring last lower true e = as_before
  by_retiring last lower false e = by_over last (lower (is_lowered s last e)) (is_approved_over s last)

  pub after_step : (step : Step)
      → ((q : Question) (c : CertFields) → step ≡ Step.asking q → IsNew s q c → P (with_approved s (row_of q c)))
      → ((last : ℕ) → IsLowered s last → P (with_last s last)) → P (stepped s step)
  after_step (Step.making scope) more lower = as_before
  after_step (Step.asking q) more lower = left_by P s q as_before (λ c new. more q c refl new)
  after_step (Step.retiring last) more lower = by_retiring last (lower last) (is_beyond s last) refl

-- ---- any steps

pub guard_still : (s : State) (later : List Step) → fold next_guard (Some s) later ≡ Some (fold stepped s later)
guard_still s [] = refl
guard_still s (step ∷ later) = guard_still (stepped s step) later

-- the guard after more steps
pub guard_then : (steps later : List Step) (s : State) → guard_after steps ≡ Some s
    → guard_after (steps ++ later) ≡ Some (fold stepped s later)
guard_then steps later s is =
    fold-append next_guard None steps later
    ∙ (ap (λ (p : Option State). fold next_guard p later) is ∙ guard_still s later)

is_then : (steps later : List Step) (s t : State) → guard_after steps ≡ Some s → guard_after (steps ++ later) ≡ Some t
    → fold stepped s later ≡ t
is_then steps later s t is then = let same = sym (guard_then steps later s is) ∙ then in cc

all_steps : (P : State → Type 0) → ((s : State) (step : Step) → P s → P (stepped s step)) → (s : State)
    → (later : List Step) → P s → P (fold stepped s later)
all_steps P keeps s [] p = p
all_steps P keeps s (step ∷ later) p = all_steps P keeps (stepped s step) later (keeps s step p)

-- ---- later states

pub later_same : (s : State) → IsLater s s
later_same s = record {
  ca = refl;
  first = refl;
  last = omega arith;
  rows = [];
  approved = sym (append-nil s.approved);
  within = All-nil (λ (a : Approved). a.serial ≤ s.scope.last);
}

pub later_next : (first s : State) (step : Step) → IsLater first s → IsLater first (stepped s step)
later_next first s step is = after_step (IsLater first) s is step
    (λ q c asks new.
    let most = new.may.to_last in
    let least = is.last in
    record {
      ca = is.ca;
      first = is.first;
      last = is.last;
      rows = is.rows ++ row_of q c ∷ [];
      approved = ap (λ (rows : List Approved). rows ++ row_of q c ∷ []) is.approved
          ∙ append_assoc first.approved is.rows (row_of q c ∷ []);
      within = All-push (λ (a : Approved). a.serial ≤ first.scope.last) is.rows (row_of q c) is.within
          (omega (arith, most, least));
    })
    (λ last low.
    let lower = low.1 in
    let least = is.last in
    record {
      ca = is.ca;
      first = is.first;
      last = omega (arith, lower, least);
      rows = is.rows;
      approved = is.approved;
      within = is.within;
    })

pub later_all : (s : State) (later : List Step) → IsLater s (fold stepped s later)
later_all s later = all_steps (IsLater s) (later_next s) s later (later_same s)

pub is_later : (steps later : List Step) (s t : State) → guard_after steps ≡ Some s
    → guard_after (steps ++ later) ≡ Some t → IsLater s t
is_later steps later s t is then = subst (IsLater s) (is_then steps later s t is then) (later_all s later)

-- ---- each body was asked for

abbrev AreAsked : List Step → Option State → Type 0
AreAsked done None = Unit {0}
AreAsked done (Some s) = All (WasAskedIn done) s.approved

asked_still : (done : List Step) (step : Step) (a : Approved) → WasAskedIn done a → WasAskedIn (done ++ step ∷ []) a
asked_still done step a is = record {
  before = is.before;
  question = is.question;
  later = is.later ++ step ∷ [];
  state = is.state;
  fields = is.fields;
  among = ap (λ (steps : List Step). steps ++ step ∷ []) is.among
      ∙ append_assoc is.before (Step.asking is.question ∷ is.later) (step ∷ []);
  guard = is.guard;
  may = is.may;
  row = is.row;
}

asked_next : (done : List Step) (step : Step) (s : State) → guard_after done ≡ Some s
    → All (WasAskedIn done) s.approved → All (WasAskedIn (done ++ step ∷ [])) (stepped s step).approved
asked_next done step s is are =
    let still : All (WasAskedIn (done ++ step ∷ [])) s.approved =
    All-weaker (WasAskedIn done) (WasAskedIn (done ++ step ∷ [])) (asked_still done step) s.approved are in
    after_step (λ (t : State). All (WasAskedIn (done ++ step ∷ [])) t.approved) s still step
    (λ q c asks new. All-push (WasAskedIn (done ++ step ∷ [])) s.approved (row_of q c) still
    (record {
      before = done;
      question = q;
      later = [];
      state = s;
      fields = c;
      among = ap (λ (x : Step). done ++ x ∷ []) asks;
      guard = is;
      may = new.may;
      row = refl;
    }))
    (λ last low. still)

asked_one : (done : List Step) (step : Step) (p : Option State) → guard_after done ≡ p → AreAsked done p
    → AreAsked (done ++ step ∷ []) (next_guard p step)
asked_one done step (Some s) is are = asked_next done step s is are
asked_one done (Step.making scope) None is are = All-nil (WasAskedIn (done ++ Step.making scope ∷ []))
asked_one done (Step.asking q) None is are = tt
asked_one done (Step.retiring last) None is are = tt

asked_all : (done todo : List Step) (p : Option State) → guard_after done ≡ p → AreAsked done p
    → AreAsked (done ++ todo) (fold next_guard p todo)
asked_all done [] p is are = subst (λ (steps : List Step). AreAsked steps p) (sym (append-nil done)) are
asked_all done (step ∷ todo) p is are =
    subst (λ (steps : List Step). AreAsked steps (fold next_guard (next_guard p step) todo))
    (append_assoc done (step ∷ []) todo)
    (asked_all (done ++ step ∷ []) todo (next_guard p step)
    (fold-append next_guard None done (step ∷ []) ∙ ap (λ (x : Option State). next_guard x step) is)
    (asked_one done step p is are))

pub asked : (steps : List Step) (s : State) → guard_after steps ≡ Some s → All (WasAskedIn steps) s.approved
asked steps s is = subst (AreAsked steps) is (asked_all [] steps None refl tt)

-- ---- each body that is added was asked for

asked_from_still : (s : State) (done : List Step) (step : Step) (a : Approved) → WasAskedFrom s done a
    → WasAskedFrom s (done ++ step ∷ []) a
asked_from_still s done step a is = record {
  before = is.before;
  question = is.question;
  later = is.later ++ step ∷ [];
  fields = is.fields;
  among = ap (λ (steps : List Step). steps ++ step ∷ []) is.among
      ∙ append_assoc is.before (Step.asking is.question ∷ is.later) (step ∷ []);
  may = is.may;
  row = is.row;
}

added_next : (s : State) (done : List Step) (step : Step) → AddsAsked s done → AddsAsked s (done ++ step ∷ [])
added_next s done step (rows, same, are) =
    subst Adds (sym (fold-append stepped s done (step ∷ [])))
    (after_step Adds now still step
    (λ q c asks new. (
      rows ++ row_of q c ∷ [],
      ap (λ (approved : List Approved). approved ++ row_of q c ∷ []) same
          ∙ append_assoc s.approved rows (row_of q c ∷ []),
      All-push Asked rows (row_of q c) asked_before
          (record {
            before = done;
            question = q;
            later = [];
            fields = c;
            among = ap (λ (x : Step). done ++ x ∷ []) asks;
            may = new.may;
            row = refl;
          }),
    ))
    (λ last low. still))
  where
    now : State
    now = fold stepped s done

    Asked : Approved → Type 0
    Asked = WasAskedFrom s (done ++ step ∷ [])

    Adds : State → Type 0
    Adds t = (more : List Approved) × (t.approved ≡ s.approved ++ more) × All Asked more

    asked_before : All Asked rows
    asked_before = All-weaker (WasAskedFrom s done) Asked (asked_from_still s done step) rows are

    still : Adds now
    still = (rows, same, asked_before)

added_all : (s : State) (done todo : List Step) → AddsAsked s done → AddsAsked s (done ++ todo)
added_all s done [] adds = subst (AddsAsked s) (sym (append-nil done)) adds
added_all s done (step ∷ todo) adds =
    subst (AddsAsked s) (append_assoc done (step ∷ []) todo)
    (added_all s (done ++ step ∷ []) todo (added_next s done step adds))

pub added : (s : State) (steps : List Step) → AddsAsked s steps
added s steps = added_all s [] steps ([], sym (append-nil s.approved), All-nil (WasAskedFrom s []))

-- ---- one body per serial

abbrev IsFound : State → Approved → Type 0
IsFound s a = find (λ (b : Approved). b.serial == a.serial) s.approved ≡ Some a

abbrev AreFound : State → Type 0
AreFound s = All (IsFound s) s.approved

none_found : (o : Option Approved) → option_map (λ (a : Approved). a.body) o ≡ None → o ≡ None
none_found None e = refl
none_found (Some a) e = absurd cc

found_next : (s : State) (step : Step) → AreFound s → AreFound (stepped s step)
found_next s step are = after_step AreFound s are step
    (λ q c asks new.
    let row = row_of q c in
    let more = with_approved s row in
    All-push (IsFound more) s.approved row
    (All-weaker (IsFound s) (IsFound more)
    (λ a is.
    find-append (λ (b : Approved). b.serial == a.serial) s.approved (row ∷ [])
    ∙ ap (λ (o : Option Approved). option_or o (find (λ (b : Approved). b.serial == a.serial) (row ∷ []))) is)
    s.approved are)
    (find-append (λ (b : Approved). b.serial == c.serial) s.approved (row ∷ [])
    ∙ (ap (λ (o : Option Approved). option_or o (find (λ (b : Approved). b.serial == c.serial) (row ∷ [])))
    (none_found (find (λ (b : Approved). b.serial == c.serial) s.approved) new.kept)
    ∙ ap (λ (t : Bool). cond t (Some row) None) (eq-eqb c.serial c.serial refl))))
    (λ last low. are)

abbrev FoundIfAny : Option State → Type 0
FoundIfAny None = Unit {0}
FoundIfAny (Some s) = AreFound s

found_one : (p : Option State) (step : Step) → FoundIfAny p → FoundIfAny (next_guard p step)
found_one (Some s) step are = found_next s step are
found_one None (Step.making scope) are = All-nil (IsFound (record { scope = scope; approved = [] }))
found_one None (Step.asking q) are = tt
found_one None (Step.retiring last) are = tt

found_all : (p : Option State) (steps : List Step) → FoundIfAny p → FoundIfAny (fold next_guard p steps)
found_all p [] are = are
found_all p (step ∷ steps) are = found_all (next_guard p step) steps (found_one p step are)

pub once : (steps : List Step) (s : State) (a b : Approved) → guard_after steps ≡ Some s → Contains s.approved a
    → Contains s.approved b → a.serial ≡ b.serial → a ≡ b
once steps s a b is has_a has_b same =
    let are : AreFound s = subst FoundIfAny is (found_all None steps tt) in
    let first = All-contains (IsFound s) s.approved a are has_a in
    let second = All-contains (IsFound s) s.approved b are has_b in
    let both : Some a ≡ Some b =
    sym first ∙ (ap (λ (n : ℕ). find (λ (r : Approved). r.serial == n) s.approved) same ∙ second) in cc

-- ---- after a retirement

pub none_over : (steps later : List Step) (last : ℕ) (s retired t : State) → guard_after steps ≡ Some s
    → retirement s last ≡ Ok retired → guard_after (steps ++ Step.retiring last ∷ later) ≡ Some t
    → All (λ (a : Approved). a.serial ≤ last) t.approved
none_over steps later last s retired t is retires then =
    let it = retired_is s retired last retires in
    let stands : stepped s (Step.retiring last) ≡ with_last s last = ap (if_retired s) retires ∙ it.same in
    let on : IsLater (with_last s last) t =
    subst (IsLater (with_last s last))
    (ap (λ (x : State). fold stepped x later) (sym stands) ∙ is_then steps (Step.retiring last ∷ later) s t is then)
    (later_all (with_last s last) later) in
    subst (All (λ (a : Approved). a.serial ≤ last)) (sym on.approved)
    (All-append (λ (a : Approved). a.serial ≤ last) s.approved on.rows (none_above last s.approved it.none) on.within)

-- ---- a body that was approved is signed again

module _ (again : Question) (c : CertFields) (fields : fields_of again.body ≡ Some c) where
  abbrev Signs : State → Type 0
  Signs s = (body_of s c.serial ≡ Some again.body) × (refusal_of s again ≡ None)

  retired_signs : (s : State) (last : ℕ) → Signs s → (r : Result State RetireFault) → retirement s last ≡ r
      → Signs (if_retired s r)
  retired_signs s last is (Err e) retires = is
  retired_signs s last is (Ok retired) retires =
      let it = retired_is s retired last retires in (
        subst (λ (t : State). body_of t c.serial ≡ Some again.body) (sym it.same) is.0,
        signs_again s retired last again c retires fields is.0 is.1,
      )

  signs_next : (s : State) (step : Step) → Signs s → Signs (stepped s step)
  signs_next s (Step.making scope) is = is
  signs_next s (Step.asking q) is =
      let was = signed s again is.1 in
      let same : was.0 ≡ c = cc in
      left_by Signs s q is
      (λ d new.
      let kept = kept_with_row s q d c.serial again.body is.0 in (
        kept,
        signed_again (with_approved s (row_of q d)) again c fields
            (subst (λ (x : CertFields). IsInScope s.scope x) same was.1.scope) kept,
      ))
  signs_next s (Step.retiring last) is = retired_signs s last is (retirement s last) refl

  signs_all : (s : State) (later : List Step) → Signs s → Signs (fold stepped s later)
  signs_all = all_steps Signs signs_next

pub signs : (steps later : List Step) (s t : State) (q again : Question) → guard_after steps ≡ Some s
    → refusal_of s q ≡ None → again.body ≡ q.body
    → guard_after (steps ++ Step.asking q ∷ later) ≡ Some t → refusal_of t again ≡ None
signs steps later s t q again is none same then =
    let was = signed s q none in
    let c = was.0 in
    let fields : fields_of again.body ≡ Some c = ap fields_of same ∙ was.1.fields in
    let scope : (after s q).scope ≡ s.scope = left_by (λ (x : State). x.scope ≡ s.scope) s q refl (λ d new. refl) in
    let kept : body_of (after s q) c.serial ≡ Some again.body = was.1.kept ∙ ap Some (sym same) in
    let now : refusal_of (after s q) again ≡ None =
    signed_again (after s q) again c fields
    (subst (λ (x : Scope). IsInScope x c) (sym scope) was.1.scope) kept in
    subst (λ (x : State). refusal_of x again ≡ None) (is_then steps (Step.asking q ∷ later) s t is then)
    (signs_all again c fields (after s q) later (kept, now)).1

-- Reading calls of a register, one after the other, and arrivals that it doesn't accept.
use Rattle.office.proofs.Words.{Arrival, List, Opening, Preserves}
use Rattle.std.specs.Prelude.{Result, Ok, Err}
use Rattle.office.specs.declared.arrival.Outcome.{Outcome}
use Rattle.office.specs.declared.arrival.Outcome.TheVariants.{Accepted, Refused, Repeated}
use Rattle.office.specs.Registers.{UnlessAccepted}

-- no call
pub preserves_none : {S : Type 0} {is_honest is_open : S → Type 0} {is_as_before : S → S → Type 0}
    {means : S → Opening → List Arrival → Type 0} → ((s : S) → is_as_before s s) → (s : S)
    → Preserves is_honest is_open is_as_before means s s
preserves_none unasked s = record {
  honest = λ h. h;
  was_open = λ h is. is;
  same = λ h o l m. m;
  before = λ h is. unasked s;
}

-- two successive calls
pub preserves_both : {S : Type 0} {is_honest is_open : S → Type 0} {is_as_before : S → S → Type 0}
    {means : S → Opening → List Arrival → Type 0} {a b c : S}
    → ((x y z : S) → is_as_before x y → is_as_before y z → is_as_before x z)
    → Preserves is_honest is_open is_as_before means a b → Preserves is_honest is_open is_as_before means b c
    → Preserves is_honest is_open is_as_before means a c
preserves_both {S} {is_honest} {is_open} {is_as_before} {means} {a} {b} {c} through first next = record {
  honest = λ h. first.honest (next.honest h);
  was_open = λ h is. first.was_open (next.honest h) (next.was_open h is);
  same = λ h o l m. next.same h o l (first.same (next.honest h) o l m);
  before = λ h is. through a b c (first.before (next.honest h) (next.was_open h is)) (next.before h is);
}

-- what holds at all holds unless an arrival is accepted
pub unless_accepted : {E : Type 0} (r : Result Outcome E) (P : Type 0) → P → UnlessAccepted r P
unless_accepted (Ok (Accepted reply)) P is = tt
unless_accepted (Ok (Repeated reply)) P is = is
unless_accepted (Ok (Refused refusal)) P is = is
unless_accepted (Err e) P is = is

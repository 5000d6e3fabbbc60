-- The data that a register returns, and faults for lack of memory.
use Rattle.web.proofs.Words.{AlreadyAnOffice, Arrival, Ask, Asks, AsksNoChange, Damaged, Device, Err, Global}
use Rattle.web.proofs.Words.{HasRegisterCause, IfErr, IfOk, IsOfARegister, List, NoMemory, NotAnOffice, Ok, Opening}
use Rattle.web.proofs.Words.{Result, StoreFault, Vec, WrongSchema, ap, one_of, subst, sym, ℕ, ◌∙◌, ◌≡◌}
use Rattle.std.specs.Prelude.{OnErr}
use Rattle.http_requests.specs.declared.resource.Resource.{Resource}
use Rattle.http_requests.specs.declared.resource.Resource.TheVariants.{Pending}
use Rattle.http_requests.specs.Asks.{get}
use Rattle.office.specs.Registers.{FailsWithin}
use Rattle.web.specs.Answers.{IsNoMessage}
use Rattle.web.specs.Causes.{AsksPlainGet, FailsAfter, IsPlainGet}

-- a response with the data found is one with the data of each history
pub shows : {X E : Type 0} (r : Result (Vec ℕ Global) E) (text : X → List ℕ) (found : X) (shown : Opening → List Arrival → X)
    (means : Opening → List Arrival → Type 0) → ((o : Opening) (l : List Arrival) → means o l → found ≡ shown o l)
    → IfOk r (λ v. v.items ≡ text found)
    → IfOk r (λ v. (o : Opening) (l : List Arrival) → means o l → v.items ≡ text (shown o l))
shows (Ok v) text found shown means same is = λ o l m. is ∙ ap text (same o l m)
shows (Err e) text found shown means same is = tt

-- if the bytes of a request ask nothing that can change the stored rows, their ask is no message
pub is_no_message : (request : List ℕ) (ask : Ask) → Asks request ask → AsksNoChange request → IsNoMessage ask
is_no_message request ask asks none =
    let N : Ask → Type 0 = IsNoMessage in
    subst N (one_of request none.0 ask none.1 asks) none.2

-- a fact holds if a call fails
pub on_err : {T E : Type 0} (r : Result T E) (P : Type 0) → P → OnErr r P
on_err (Ok x) P is = tt
on_err (Err e) P is = is

-- a property of every answer holds of the one that a call gives
pub always_ok : {T E : Type 0} (r : Result T E) (P : T → Type 0) → ((x : T) → P x) → IfOk r P
always_ok (Ok x) P is = is x
always_ok (Err e) P is = tt

-- lack of memory is a fault that a register may return
pub memory_only : {T : Type 0} (r : Result T StoreFault) (means : Opening → List Arrival → Type 0) → IfErr r (λ e. e ≡ NoMemory)
    → IfErr r (λ e. (o : Opening) (l : List Arrival) → means o l → IsOfARegister e)
memory_only (Ok x) means is = tt
memory_only (Err e) means is = λ o l m. subst IsOfARegister (sym is) tt

pub memory_cause : {T : Type 0} (r : Result T StoreFault) (failed : Type 0) → IfErr r (λ e. e ≡ NoMemory)
    → IfErr r (λ e. HasRegisterCause e failed)
memory_cause (Ok x) failed is = tt
memory_cause (Err e) failed is = subst (λ (f : StoreFault). HasRegisterCause f failed) (sym is) tt

-- the cause of a fault may be replaced by one that it implies
caused : (e : StoreFault) (A B : Type 0) → (A → B) → HasRegisterCause e A → HasRegisterCause e B
caused Device A B f a = f a
caused NoMemory A B f a = tt
caused AlreadyAnOffice A B f a = tt
caused NotAnOffice A B f a = tt
caused WrongSchema A B f a = tt
caused Damaged A B f a = tt

pub cause_as : {T : Type 0} (r : Result T StoreFault) (A B : Type 0) → (A → B) → IfErr r (λ e. HasRegisterCause e A)
    → IfErr r (λ e. HasRegisterCause e B)
cause_as (Ok x) A B f is = tt
cause_as (Err e) A B f is = caused e A B f is

-- and by a failure within a register that still meant the same histories
pub cause_within : {T S : Type 0} (means : S → Opening → List Arrival → Type 0) (fails : S → S → Type 0) (old new : S)
    (r : Result T StoreFault) → IfErr r (λ e. HasRegisterCause e (fails old new))
    → IfErr r (λ e. HasRegisterCause e (FailsWithin means fails old new))
cause_within means fails old new r is =
    cause_as r (fails old new) (FailsWithin means fails old new) (λ f. record {
      before = old;
      same = λ o l m. m;
      failed = f;
    }) is

-- ---- failures after other calls

module _ {S : Type 0} (is_open : S → Type 0) (is_as_before : S → S → Type 0)
    (means : S → Opening → List Arrival → Type 0) (fails : S → S → Type 0) where
  -- a failure of a first call
  pub cause_at_once : {T : Type 0} (old new : S) (r : Result T StoreFault) → is_as_before old old
      → IfErr r (λ e. HasRegisterCause e (fails old new))
      → IfErr r (λ e. HasRegisterCause e (FailsAfter is_open is_as_before means fails old new))
  cause_at_once old new r unasked is =
      cause_as r (fails old new) (FailsAfter is_open is_as_before means fails old new) (λ f. record {
        before = old;
        still = λ is. is;
        rows = unasked;
        same = λ o l m. m;
        failed = f;
      }) is

  -- one of a later call, after which the register fails within what it meant
  pub after_within : (old new : S) → FailsAfter is_open is_as_before means fails old new
      → FailsWithin means fails old new
  after_within old new f = record { before = f.before; same = f.same; failed = f.failed }

  pub cause_weaker : {T : Type 0} (old new : S) (r : Result T StoreFault)
      → IfErr r (λ e. HasRegisterCause e (FailsAfter is_open is_as_before means fails old new))
      → IfErr r (λ e. HasRegisterCause e (FailsWithin means fails old new))
  cause_weaker old new r is =
      cause_as r (FailsAfter is_open is_as_before means fails old new) (FailsWithin means fails old new)
      (after_within old new) is

-- a GET of anything but the pending certificates
pub not_pending : (it : Resource) → IsPlainGet (get it) → it ≡ Pending → ⊥
not_pending it plain same = subst (λ (r : Resource). IsPlainGet (get r)) same plain

-- what the bytes of a request ask, if they ask that
pub is_plain_get : (request : List ℕ) (ask : Ask) → Asks request ask → AsksPlainGet request → IsPlainGet ask
is_plain_get request ask asks plain =
    let P : Ask → Type 0 = IsPlainGet in
    subst P (one_of request plain.0 ask plain.1 asks) plain.2

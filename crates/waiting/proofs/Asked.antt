-- The answer to a request for the pending certificates.
use Rattle.std.proofs.Common.{◌≡◌, ℕ, zero, suc, ◌+◌, ◌-◌, ◌<◌, List, [], ◌∷◌, ◌++◌, length, get_or, take, filter, Bool, true}
use Rattle.std.proofs.Common.{false, cond, not, ◌&&◌, Option, Some, None, refl, sym, ap, ap₂, subst, ◌∙◌, arith}
use Rattle.std.specs.Prelude.{IfErr, IfOk, OnErr, OnOk, Result, Ok, Err, is_none, option_map, slice_get}
use Rattle.std.specs.Option.{option_map_or}
use Rattle.std.specs.Result.{IsErrAnd}
use Rattle.std.proofs.lemmas.Bool.{le-ltb}
use Rattle.std.proofs.lemmas.List.{take_all, take_more}
use Rattle.office.specs.declared.opening.Opening.{Opening}
use Rattle.office.specs.declared.arrival.Arrival.{Arrival}
use Rattle.office.specs.declared.certificate.Certificate.{Certificate}
use Rattle.office.specs.declared.listing.Revocations.{Revocations}
use Rattle.office.specs.declared.publication.Issued.{Issued}
use Rattle.office.specs.declared.publication.Pending.{Pending}
use Rattle.office.specs.declared.store_fault.StoreFault.{StoreFault}
use Rattle.office.specs.declared.store_fault.StoreFault.TheVariants.{AlreadyAnOffice, NotAnOffice, WrongSchema, Damaged}
use Rattle.office.specs.declared.store_fault.StoreFault.TheVariants.{Device, NoMemory}
use Rattle.office.specs.Faults.{HasRegisterCause, IsOfARegister}
use Rattle.office.specs.History.{state}
use Rattle.office.specs.Listing.{AreRevocations, is_named, waiting_rows}
use Rattle.office.specs.Publication.{is_pending, issued_of, issued_row, pending_of}
use Rattle.office.specs.State.{State, certificate_of}
use Rattle.office.proofs.Listed.{among_is}
use Rattle.office.proofs.Waiting.{pending_is, rows_are}
use Rattle.office_laws.proofs.Bodies.{body_names_signer}
use Rattle.waiting.specs.Knowing.{Covers, IsKept, Knows, MeansKnown, serial_waits, still_waiting}
use Rattle.waiting.proofs.Covering.{covers_all, knows_more, still_are}

-- ---- one row

at_place : (s : State) (n : ℕ) (c : Certificate) → slice_get s.certificates n ≡ Some c
    → certificate_of s (s.opening.first + n) ≡ Some c
at_place s n c e =
    let back : (s.opening.first + n) - s.opening.first ≡ n = omega arith in
    ap (λ (b : Bool). cond b None (slice_get s.certificates ((s.opening.first + n) - s.opening.first)))
    (le-ltb (s.opening.first + n) s.opening.first (omega arith))
    ∙ ap (slice_get s.certificates) back ∙ e

-- the row of the certificate at a place is still pending if and only if the certificate is
pub at_place_waits : (o : Opening) (l : List Arrival) (n : ℕ) (c : Certificate)
    → slice_get (state o l).certificates n ≡ Some c → serial_waits (state o l) c.fields.serial ≡ is_pending (state o l) c
at_place_waits o l n c e =
    let s = state o l in
    let there = at_place s n c e in
    let same = (body_names_signer o l (s.opening.first + n) c there).serial_number in
    ap (λ (k : ℕ). option_map_or (is_pending s) (certificate_of s k) false) same
    ∙ ap (λ (x : Option Certificate). option_map_or (is_pending s) x false) there

still_none : {A B : Type 0} (f : A → B) (x : Option A) → is_none (option_map f x) ≡ is_none x
still_none f (Some a) = refl
still_none f None = refl

-- the data shown for a serial determine whether its certificate is pending
pub shown_waits : (o : Opening) (l : List Arrival) (r : Revocations) (serial : ℕ) (issued : Issued)
    → AreRevocations r (state o l) → issued_of (state o l) serial ≡ Some issued
    → (is_none issued.certificate && not (is_named r serial issued.key_id)) ≡ serial_waits (state o l) serial
shown_waits o l r serial issued are = by_certificate (certificate_of s serial) refl
  where
    s : State
    s = state o l

    by_certificate : (x : Option Certificate) → certificate_of s serial ≡ x → option_map issued_row x ≡ Some issued
        → (is_none issued.certificate && not (is_named r serial issued.key_id)) ≡ option_map_or (is_pending s) x false
    by_certificate None e shown = absurd (cc)
    by_certificate (Some c) e shown =
        let same = (body_names_signer o l serial c e).serial_number in
        let is : issued_row c ≡ issued = cc in
        ap (λ (i : Issued). is_none i.certificate && not (is_named r serial i.key_id)) (sym is)
        ∙ ap₂ (λ (a : Bool) (k : ℕ). a && not (is_named r k c.fields.key_id)) (still_none _ c.signature) (sym same)
        ∙ ap (λ (b : Bool). is_none c.signature && not b) (among_is r s c are)

-- a serial that isn't shown isn't pending
pub unshown : (s : State) (serial : ℕ) → issued_of s serial ≡ None
    → false ≡ serial_waits s serial
unshown s serial = by_certificate (certificate_of s serial)
  where
    by_certificate : (x : Option Certificate) → option_map issued_row x ≡ None → false ≡ option_map_or (is_pending s) x false
    by_certificate None e = refl
    by_certificate (Some c) e = absurd (cc)

-- ---- all rows

filter_push : {X : Type 0} (test : X → Bool) (xs : List X) (x : X)
    → filter test (xs ++ x ∷ []) ≡ filter test xs ++ cond (test x) (x ∷ []) []
filter_push test [] x = refl
filter_push {X} test (y ∷ ys) x =
    ap (λ (t : List X). cond (test y) (y ∷ t) t) (filter_push test ys x) ∙ by_test (test y)
  where
    by_test : (b : Bool)
        → cond b (y ∷ (filter test ys ++ cond (test x) (x ∷ []) [])) (filter test ys ++ cond (test x) (x ∷ []) [])
        ≡ cond b (y ∷ filter test ys) (filter test ys) ++ cond (test x) (x ∷ []) []
    by_test true = refl
    by_test false = refl

-- one more row was checked
pub one_row_more : (test : Pending → Bool) (rows : List Pending) (i : ℕ) (d : Pending) (so_far now : List Pending)
    → i < length rows → so_far ≡ filter test (take i rows)
    → now ≡ so_far ++ cond (test (get_or rows i d)) (get_or rows i d ∷ []) [] → now ≡ filter test (take (i + 1) rows)
one_row_more test rows i d so_far now lt said more =
    let row = get_or rows i d in
    more ∙ ap (λ (t : List Pending). t ++ cond (test row) (row ∷ []) []) said
    ∙ sym (filter_push test (take i rows) row) ∙ ap (filter test) (sym (take_more rows i d lt))

slice_get-take : {X : Type 0} (n : ℕ) (xs : List X) (k : ℕ) (x : X) → slice_get (take n xs) k ≡ Some x
    → slice_get xs k ≡ Some x
slice_get-take zero xs k x e = absurd (cc)
slice_get-take (suc n) [] k x e = e
slice_get-take (suc n) (y ∷ ys) zero x e = e
slice_get-take (suc n) (y ∷ ys) (suc k) x e = slice_get-take n ys k x e

-- the remembered rows that are still pending are those of the certificates pending before the place
pub again : (o : Opening) (l : List Arrival) (r : Revocations) (seen : ℕ) (rows : List Pending)
    → AreRevocations r (state o l) → Knows seen rows (state o l)
    → still_waiting (state o l) rows ≡ waiting_rows r (take seen (state o l).certificates)
again o l r seen rows are k =
    let s = state o l in
    still_are (is_pending s) (λ row. serial_waits s row.serial) (take seen s.certificates) rows
    (λ n c e. at_place_waits o l n c (slice_get-take seen s.certificates n c e)) k.covers
    ∙ sym (rows_are r s are (take seen s.certificates))

-- then all pending rows are known
pub all_known : (r : Revocations) (s : State) (seen : ℕ) (rows : List Pending) → AreRevocations r s
    → seen ≡ length s.certificates → rows ≡ waiting_rows r s.certificates → Knows seen rows s × (rows ≡ pending_of s)
all_known r s seen rows are end is =
    let waits = pending_is r s are rows is in (
      record {
        within = omega (arith, end);
        covers = subst (λ (xs : List Certificate). Covers (is_pending s) xs rows)
            (sym (take_all seen s.certificates (omega (arith, end))))
            (subst (λ (t : List Pending). Covers (is_pending s) s.certificates t) (sym waits)
            (covers_all (is_pending s) s.certificates));
      },
      waits,
    )

-- a claim about the answer implies a weaker one, under a stronger condition on the history
pub then_so : {X E : Type 0} (r : Result X E) (M N : Opening → List Arrival → Type 0)
    (P Q : Opening → List Arrival → X → Type 0) → ((o : Opening) (l : List Arrival) → M o l → N o l)
    → ((o : Opening) (l : List Arrival) (x : X) → M o l → P o l x → Q o l x)
    → IfOk r (λ x. (o : Opening) (l : List Arrival) → N o l → P o l x)
    → IfOk r (λ x. (o : Opening) (l : List Arrival) → M o l → Q o l x)
then_so (Ok x) M N P Q same so h = λ o l m. so o l x m (h o l (same o l m))
then_so (Err e) M N P Q same so h = tt

-- ---- the register over another

module _ {S X : Type 0} (means : S → Opening → List Arrival → Type 0) (register : S) (seen : ℕ) (rows : List Pending)
    (revoked : Option Revocations) (r : Result X StoreFault) where
  -- the answer is that of the register below
  pub same_answer : (P : Opening → List Arrival → X → Type 0)
      → IfOk r (λ x. (o : Opening) (l : List Arrival) → means register o l → P o l x)
      → IfOk r (λ x. (o : Opening) (l : List Arrival) → MeansKnown means register seen rows revoked o l → P o l x)
  same_answer P h = then_so r (MeansKnown means register seen rows revoked) (means register) P P
      (λ o l m. m.register_means) (λ o l x m p. p) h

  -- and so are its faults
  pub same_fault : IfErr r (λ e. (o : Opening) (l : List Arrival) → means register o l → IsOfARegister e)
      → IfErr r (λ e. (o : Opening) (l : List Arrival) → MeansKnown means register seen rows revoked o l
      → IsOfARegister e)
  same_fault h = by_result r h
    where
      by_result : (x : Result X StoreFault)
          → IfErr x (λ e. (o : Opening) (l : List Arrival) → means register o l → IsOfARegister e)
          → IfErr x (λ e. (o : Opening) (l : List Arrival) → MeansKnown means register seen rows revoked o l
          → IsOfARegister e)
      by_result (Ok x) h = tt
      by_result (Err e) h = λ o l m. h o l m.register_means

pub on_ok : {X E : Type 0} (r : Result X E) (A B : Type 0) → (A → B) → OnOk r A → OnOk r B
on_ok (Ok x) A B f a = f a
on_ok (Err e) A B f a = tt

pub on_err : {X E : Type 0} (r : Result X E) (A B : Type 0) → (A → B) → OnErr r A → OnErr r B
on_err (Ok x) A B f a = tt
on_err (Err e) A B f a = f a

-- if the register below represents the same histories, what is known stays true
pub still_known : {S : Type 0} (means : S → Opening → List Arrival → Type 0) (old new : S) (seen : ℕ) (rows : List Pending)
    (revoked : Option Revocations) → ((o : Opening) (l : List Arrival) → means old o l → means new o l) → (o : Opening)
    (l : List Arrival) → MeansKnown means old seen rows revoked o l → MeansKnown means new seen rows revoked o l
still_known means old new seen rows revoked same o l m =
    record { register_means = same o l m.register_means; knows = m.knows; revocations = m.revocations }

-- the same after one more received request, whether the revocations are still remembered or not
pub known_with : {S : Type 0} (means : S → Opening → List Arrival → Type 0) (old new : S) (seen : ℕ) (rows : List Pending)
    (revoked kept : Option Revocations) (a : Arrival)
    → ((o : Opening) (l : List Arrival) → IsKept revoked (state o l) → IsKept kept (state o (l ++ a ∷ [])))
    → ((o : Opening) (l : List Arrival) → means old o l → means new o (l ++ a ∷ [])) → (o : Opening)
    (l : List Arrival) → MeansKnown means old seen rows revoked o l
    → MeansKnown means new seen rows kept o (l ++ a ∷ [])
known_with means old new seen rows revoked kept a stays next o l m = record {
  register_means = next o l m.register_means;
  knows = knows_more o l a seen rows m.knows;
  revocations = stays o l m.revocations;
}

-- ---- a request for the pending certificates

-- a fault's cause implies each weaker cause
pub caused : (e : StoreFault) (A B : Type 0) → (A → B) → HasRegisterCause e A → HasRegisterCause e B
caused Device A B f a = f a
caused NoMemory A B f a = tt
caused AlreadyAnOffice A B f a = tt
caused NotAnOffice A B f a = tt
caused WrongSchema A B f a = tt
caused Damaged A B f a = tt

pub cause_as : {T : Type 0} (r : Result T StoreFault) (A B : Type 0) → (A → B) → IfErr r (λ e. HasRegisterCause e A)
    → IfErr r (λ e. HasRegisterCause e B)
cause_as (Ok x) A B f is = tt
cause_as (Err e) A B f is = caused e A B f is

-- a fault passed on by `?`
pub raised : {X : Type 0} (r : Result X StoreFault) (e : StoreFault) (A B : Type 0) → IsErrAnd r (λ f. f ≡ e) → (A → B)
    → HasRegisterCause e A → IfErr r (λ f. HasRegisterCause f B)
raised (Ok x) e A B is f a = tt
raised (Err x) e A B is f a = subst (λ (y : StoreFault). HasRegisterCause y B) (sym is) (caused e A B f a)

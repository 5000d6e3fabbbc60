-- The CAs of an office serve from serials that don't descend.
use Rattle.store.proofs.Words.{All, Arrival, Ca, Certificate, Damaged, Device, Err, Fault, Global, IsNonDecreasing}
use Rattle.store.proofs.Words.{List, NoMemory, None, Ok, Opening, Option, Result, ShowsOffice, Some, Vec, [], ap, arith}
use Rattle.store.proofs.Words.{ca_from_now, is_key_id_revoked, is_range_revoked, issued, length, length-append}
use Rattle.store.proofs.Words.{length-signed_at, map-append, numbers, refl, renewed, subst, sym, with_one_more, ℕ, ◌++◌}
use Rattle.store.proofs.Words.{◌-◌, ◌∙◌, ◌∷◌, ◌≡◌, ◌≤◌}
use Rattle.std.proofs.lemmas.List.Elements.{All-push}
use Rattle.std.proofs.lemmas.List.Sorted.{IsNonDecreasingBy-push}
use Rattle.message.specs.declared.kinds.Message.TheVariants as message
use Rattle.office.specs.Machine.{State, has_any, next_serial}
use Rattle.office.specs.Machine.{with_ca, with_signature}
use Rattle.office.specs.History.{state}
use Rattle.sqlite.specs.State.{State as Connection}
use Rattle.store.specs.Parts.{AreOrdered}
use Rattle.office.proofs.Histories.{IsKept, holds_after}
use Rattle.store.proofs.Lawful.{of_either}

-- none serves from an earlier serial than the one before it, nor from a serial after the next one to be issued
pub record AreServing (s : State) : Type 0 where
  pub ascending : IsNonDecreasing (numbers s.cas)
  pub served : All (λ n. n ≤ next_serial s) (numbers s.cas)

serving_still : (s t : State) → t.cas ≡ s.cas → next_serial s ≤ next_serial t → AreServing s → AreServing t
serving_still s t same more h = record {
  ascending = rw same h.ascending;
  served = rw same (λ i d there. let low = h.served i d there in omega (arith, low, more));
}

one_more_serving : (s : State) (c : Option Certificate) → AreServing s → AreServing (with_one_more s c)
one_more_serving s None h = h
one_more_serving s (Some c) h =
    serving_still s (with_one_more s (Some c)) refl (omega (arith, length-append s.certificates (c ∷ []))) h

-- one more CA, from the next serial on
ca_serving : (s : State) (key : List ℕ) → AreServing s → AreServing (with_ca s (ca_from_now s key))
ca_serving s key h =
    let ca = ca_from_now s key in
    let longer : numbers (s.cas ++ ca ∷ []) ≡ numbers s.cas ++ ca.since ∷ [] =
    map-append (λ (x : Ca). x.since) s.cas (ca ∷ []) in
    let last : ca.since ≤ next_serial s = omega arith in
    record {
      ascending = rw longer (IsNonDecreasingBy-push (λ (n : ℕ). n) (numbers s.cas) ca.since h.ascending
          (λ d some. h.served (length (numbers s.cas) - 1) d (omega (arith, some))));
      served = rw longer (All-push (λ n. n ≤ next_serial s) (numbers s.cas) ca.since h.served last);
    }

keeps_serving : IsKept AreServing
keeps_serving s caller (message.Department d) moment nonce lawful allowed h = serving_still s _ refl (omega arith) h
keeps_serving s caller (message.Issue i) moment nonce lawful allowed h =
    one_more_serving s (Some (issued s i nonce)) h
keeps_serving s caller (message.Renew r) moment nonce lawful allowed h = one_more_serving s (renewed s r nonce) h
keeps_serving s caller (message.Deliver d) moment nonce lawful allowed h =
    serving_still s (with_signature s d.serial d.signature) refl
    (omega (arith, length-signed_at s.certificates (d.serial - s.opening.first) d.signature)) h
keeps_serving s caller (message.RevokeSerial serial) moment nonce lawful allowed h =
    of_either AreServing (s.revoked serial) s _ h (assumption)
keeps_serving s caller (message.RevokeRange r) moment nonce lawful allowed h =
    of_either AreServing (is_range_revoked s r) s _ h (assumption)
keeps_serving s caller (message.RevokeKeyId key_id) moment nonce lawful allowed h =
    of_either AreServing (is_key_id_revoked s key_id) s _ h (assumption)
keeps_serving s caller (message.Rollover k) moment nonce lawful allowed h =
    let kept = ca_serving s k.key h in
    of_either AreServing (has_any s.revoked_key_ids) _ _ (assumption) kept

pub serving_after : (o : Opening) (l : List Arrival) → AreServing (state o l)
serving_after o l =
    holds_after AreServing keeps_serving o l (record { ascending = grind arith; served = grind arith })

-- ---- CAs read from the tables

-- an office's CAs are in order
pub shows_ordered : (old new : Connection) (cas : Vec Ca Global) (r : Result (Vec Ca Global) Fault) → AreOrdered cas r
    → ShowsOffice (λ s kept v. v.items ≡ s.cas) old new (Ok cas) → ShowsOffice (λ s kept v. v.items ≡ s.cas) old new r
shows_ordered old new cas (Ok v) is shows = λ o l history means.
    let p = shows o l history means in (ap (λ (w : Vec Ca Global). w.items) is.0 ∙ p.0, p.1)
shows_ordered old new cas (Err Damaged) is shows = λ o l history means.
    let p = shows o l history means in
    absurd (is (subst (λ (cs : List Ca). IsNonDecreasing (numbers cs)) (sym p.0) (serving_after o l).ascending))
shows_ordered old new cas (Err NoMemory) is shows = absurd is
shows_ordered old new cas (Err Device) is shows = absurd is

-- No office has more CAs than the limit, and no published list has more parts.
use Rattle.web.proofs.Words.{Arrival, Bool, Certificate, Err, HasRegisterCause, IfErr, IsOfARegister, List, None, Ok}
use Rattle.web.proofs.Words.{Opening, Option, Result, Some, State, StoreFault, [], ap, arith, inl, inr, length}
use Rattle.web.proofs.Words.{length-append, refl, state, subst, suc, sym, ℕ, ◌++◌, ◌<◌, ◌∙◌, ◌∷◌, ◌≡◌, ◌≤◌}
use Rattle.std.proofs.Common.{true, false, cond, lit≤}
use Rattle.std.proofs.lemmas.Bool.{leb-false}
use Rattle.message.specs.declared.kinds.Message.TheVariants as message
use Rattle.krl.specs.declared.ca_part.CaPart.{CaPart}
use Rattle.office.specs.declared.ca.Ca.{Ca}
use Rattle.office.specs.declared.publication.Revoked.{Revoked}
use Rattle.office.specs.State.{has_any, is_range_revoked, is_key_id_revoked}
use Rattle.office.specs.Refusals.{refusals}
use Rattle.office.specs.Machine.{renewed, republished, with_ca, with_one_more, ca_from_now}
use Rattle.office.specs.Publication.{AreRevoked, parts_from}
use Rattle.web.specs.Causes.{IsOfAList}
use Rattle.office.proofs.Judged.{none_holds}
use Rattle.office.proofs.Histories.{IsKept, holds_after}

abbrev pub AreFew : State → Type 0
AreFew s = length s.cas ≤ 8

few_either : (b : Bool) (s t : State) → AreFew s → AreFew t → AreFew (cond b s t)
few_either true s t few also = few
few_either false s t few also = also

few_made : (s : State) (c : Option Certificate) → AreFew s → AreFew (with_one_more s c)
few_made s (Some c) few = few
few_made s None few = few

-- a message that isn't refused leaves at most 8 CAs
few_after : IsKept AreFew
few_after s caller (message.Department d) moment nonce lawful allowed few = few
few_after s caller (message.Issue i) moment nonce lawful allowed few = few
few_after s caller (message.Renew r) moment nonce lawful allowed few = few_made s (renewed s r nonce) few
few_after s caller (message.Deliver d) moment nonce lawful allowed few = few
few_after s caller (message.RevokeSerial serial) moment nonce lawful allowed few = few_either (s.revoked serial) s _ few few
few_after s caller (message.RevokeRange r) moment nonce lawful allowed few = few_either (is_range_revoked s r) s _ few few
few_after s caller (message.RevokeKeyId key_id) moment nonce lawful allowed few = few_either (is_key_id_revoked s key_id) s _ few few
few_after s caller (message.Rollover k) moment nonce lawful allowed few =
    let tests = none_holds (refusals s caller (message.Rollover k) moment) allowed in
    let room : length s.cas < 8 = leb-false _ _ tests.1.1.0 in
    let t = with_ca s (ca_from_now s k.key) in
    let more : length (s.cas ++ ca_from_now s k.key ∷ []) ≤ 8 = omega (arith, length-append s.cas (ca_from_now s k.key ∷ [])) in
    few_either (has_any s.revoked_key_ids) (republished t moment) t more more

-- an office has at most 8 CAs
pub few_cas : (o : Opening) (l : List Arrival) → AreFew (state o l)
few_cas o l = holds_after AreFew few_after o l (lit≤ tt)

length-parts_from : (s : State) (place : ℕ) (cas : List Ca) → length (parts_from s place cas) ≡ length cas
length-parts_from s place [] = refl
length-parts_from s place (ca ∷ cas) = ap suc (length-parts_from s (suc place) cas)

-- a list has at most 8 parts
pub few_parts : (o : Opening) (l : List Arrival) (r : Revoked) → AreRevoked r (state o l) → length r.parts.items ≤ 8
few_parts o l r is =
    let size = ap (length {A = CaPart}) is.parts ∙ length-parts_from (state o l) 0 (state o l).cas in
    let few = few_cas o l in
    omega (arith, size, few)

-- a fault in writing a list is one that a register may return
pub list_only : {T : Type 0} (r : Result T StoreFault) (count : ℕ) (means : Opening → List Arrival → Type 0) → IfErr r (IsOfAList count)
    → ((o : Opening) (l : List Arrival) → means o l → count ≤ 8) → IfErr r (λ e. (o : Opening) (l : List Arrival) → means o l → IsOfARegister e)
list_only (Ok x) count means h few = tt
list_only (Err e) count means h few = λ o l m. elim h [
  | inl same ↦ subst IsOfARegister (sym same) tt
  | inr many ↦ absurd (omega (arith, many.1, few o l m))
]

-- and one that it may return even if the database hasn't failed
pub list_cause : {T : Type 0} (r : Result T StoreFault) (count : ℕ) (failed : Type 0) → IfErr r (IsOfAList count) → IfErr r (λ e. HasRegisterCause e failed)
list_cause (Ok x) count failed h = tt
list_cause (Err e) count failed h =
    let P : StoreFault → Type 0 = λ f. HasRegisterCause f failed in elim h [
      | inl same ↦ subst P (sym same) tt
      | inr many ↦ subst P (sym many.0) tt
    ]

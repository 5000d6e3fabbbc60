-- No specified reply is too long for the reserved room, and no response with a reply is a refusal.
use Rattle.web.proofs.Words.{Arrival, Err, Global, IfErr, IfOk, IsOffice, List, Ok, Opening, Result, Vec, ap, arith}
use Rattle.web.proofs.Words.{due, get_or, refl, subst, sym, ℕ, ◌∙◌, ◌≡◌}
use Rattle.office.specs.declared.arrival.Outcome.{Outcome}
use Rattle.std.specs.Prelude.{OnErr}
use Rattle.values.specs.declared.refusal.Refusal.{Refusal}
use Rattle.values.specs.declared.refusal.Refusal.TheVariants as refusal
use Rattle.http_requests.specs.declared.response.MediaType.TheVariants.{PlainText}
use Rattle.http_requests.specs.Responses.{refusal_response, response_text}
use Rattle.office.specs.declared.arrival.Outcome.TheVariants.{Accepted, Refused, Repeated}
use Rattle.office.specs.declared.store_fault.StoreFault.{StoreFault}
use Rattle.office.specs.Laws.{ReplyFits}
use Rattle.office.specs.Registers.{IsShortIfAccepted, UnlessAccepted}
use Rattle.office.proofs.Sizes.{due_short}
use Rattle.web.specs.Answers.{IsRefusal, outcome_response}

pub reply_fits : (o : Opening) (l : List Arrival) (a : Arrival) (outcome : Outcome) → IsOffice o l → outcome ≡ due o l a
    → ReplyFits 99 outcome
reply_fits o l a outcome is same = subst (ReplyFits 99) (sym same) (due_short o l a is)

-- an answer whose only error is that a reply doesn't fit
pub only_unfit : {T E : Type 0} (r : Result T E) (damaged : E) (outcome : Outcome) (P : E → Type 0)
    → IfErr r (λ e. (e ≡ damaged) × (ReplyFits 99 outcome → ⊥))
    → ((ReplyFits 99 outcome → ⊥) → (e : E) → P e) → IfErr r P
only_unfit (Ok x) damaged outcome P h f = tt
only_unfit (Err e) damaged outcome P h f = f h.1 e

-- ---- refusals

-- the first digit of the status
abbrev first_digit : (response : List ℕ) → ℕ
first_digit response = get_or response 9 0

fours : (r : Refusal) → first_digit (refusal_response r) ≡ 52
fours refusal.BadHead = refl
fours refusal.NoRoute = refl
fours refusal.WrongMethod = refl
fours refusal.LengthRequired = refl
fours refusal.TooLong = refl
fours refusal.ShortBody = refl
fours refusal.BadMessage = refl
fours refusal.BadMoment = refl
fours refusal.KeyReused = refl
fours refusal.NotAllowed = refl
fours refusal.NoDepartment = refl
fours refusal.KindFixed = refl
fours refusal.BadKeyId = refl
fours refusal.NotPermitted = refl
fours refusal.AlreadyEnded = refl
fours refusal.KeyIdRevoked = refl
fours refusal.UnknownSerial = refl
fours refusal.WrongDigest = refl
fours refusal.Revoked = refl
fours refusal.AlreadySigned = refl
fours refusal.NotSigned = refl
fours refusal.SerialsExhausted = refl
fours refusal.CaInUse = refl
fours refusal.TooManyCas = refl

two : (reply : List ℕ) → first_digit (response_text 200 PlainText reply) ≡ 50
two reply = refl

no_refusal : (reply : List ℕ) (r : Refusal) → response_text 200 PlainText reply ≡ refusal_response r → ⊥
no_refusal reply r same =
    let digits : 50 ≡ 52 = sym (two reply) ∙ ap (λ (text : List ℕ). first_digit text) same ∙ fours r in
    omega (arith, digits)

-- if the response to an arrival is a refusal, the arrival wasn't accepted
refused_only : (response : List ℕ) (outcome : Outcome) (Open P : Type 0) → response ≡ outcome_response outcome
    → (Open → UnlessAccepted {E = StoreFault} (Ok outcome) P) → IsRefusal response → Open → P
refused_only response (Accepted reply) Open P is before refused =
    absurd (no_refusal reply refused.0 (sym is ∙ refused.1))
refused_only response (Repeated reply) Open P is before refused = before
refused_only response (Refused why) Open P is before refused = before

pub refused_unchanged : {E : Type 0} (r : Result (Vec ℕ Global) E) (outcome : Outcome) (Open P : Type 0)
    → IfOk r (λ v. v.items ≡ outcome_response outcome)
    → (Open → UnlessAccepted {E = StoreFault} (Ok outcome) P) → IfOk r (λ v. IsRefusal v.items → Open → P)
refused_unchanged (Ok v) outcome Open P is before = refused_only v.items outcome Open P is before
refused_unchanged (Err e) outcome Open P is before = tt

-- if the response to an arrival fails, the arrival wasn't accepted either
pub unfit_unchanged : {T E : Type 0} (r : Result T E) (damaged : E) (outcome : Outcome) (Open P : Type 0)
    → IfErr r (λ e. (e ≡ damaged) × (ReplyFits 99 outcome → ⊥)) → IsShortIfAccepted outcome
    → (Open → UnlessAccepted {E = StoreFault} (Ok outcome) P) → Open → OnErr r P
unfit_unchanged (Ok x) damaged outcome Open P unfit short before is = tt
unfit_unchanged (Err e) damaged (Accepted reply) Open P unfit short before is = absurd (unfit.1 short)
unfit_unchanged (Err e) damaged (Repeated reply) Open P unfit short before is = before is
unfit_unchanged (Err e) damaged (Refused why) Open P unfit short before is = before is

-- From `decide` to `judge`, and from rows to the state.
use Rattle.memory_store.proofs.Words.{Arrival, Decision, Err, MemoryContents, None, Ok, Result, Some, ap, false}
use Rattle.memory_store.proofs.Words.{has_key, judged, list_any, message_with_text, nat_lt, refl, state_of, sym, true}
use Rattle.memory_store.proofs.Words.{◌≡◌}
use Rattle.values.specs.declared.limits.TheConstants.{LATEST_MOMENT}
use Rattle.values.specs.declared.refusal.Refusal.TheVariants.{BadMessage, BadMoment, KeyReused}
use Rattle.message.specs.declared.kinds.Message.{Message}
use Rattle.office.specs.declared.view.Stop.{Stop}
use Rattle.office.specs.declared.view.Stop.TheVariants.{Refused, NoMemory}
use Rattle.office.specs.Machine.{Stepped, first_holding, refusals, after, reply_to}
use Rattle.office.specs.Decided.{Decided, stepped_by}
use Rattle.memory_store.specs.Contents.{JudgesArrival}
use Rattle.office.proofs.Judged.{step_gives}

-- ---- the message

-- ---- the verdict

pub bad_message : (t : MemoryContents) (a : Arrival) → message_with_text a.bytes ≡ None → judged (state_of t) t.kept a ≡ Err BadMessage
bad_message t a is = rw is refl

pub bad_moment : (t : MemoryContents) (a : Arrival) (m : Message) → message_with_text a.bytes ≡ Some m → nat_lt LATEST_MOMENT a.moment ≡ true → judged (state_of t) t.kept a ≡ Err BadMoment
bad_moment t a m is late = rw (is, late) refl

pub key_reused : (t : MemoryContents) (a : Arrival) (m : Message) → message_with_text a.bytes ≡ Some m → nat_lt LATEST_MOMENT a.moment ≡ false → list_any (has_key a) t.kept ≡ true
    → judged (state_of t) t.kept a ≡ Err KeyReused
key_reused t a m is in_time known = rw (is, in_time, known) refl

-- a decision on a new arrival
pub judges_by_decide : (r : Result Decision Stop) (t : MemoryContents) (a : Arrival) (m : Message)
    → message_with_text a.bytes ≡ Some m → nat_lt LATEST_MOMENT a.moment ≡ false → list_any (has_key a) t.kept ≡ false
    → Decided r (state_of t) a.caller m a.moment a.nonce → JudgesArrival r t a
judges_by_decide (Ok d) t a m is in_time new decided =
    let s = state_of t in
    let stepped : Stepped = record { state = after s m a.moment a.nonce; reply = reply_to s m a.moment a.nonce } in
    let same = step_gives (first_holding (refusals s a.caller m a.moment)) stepped (stepped_by d s) decided.0 in
    rw (is, in_time, new, decided.0) (refl, refl, sym (ap (λ (x : Stepped). x.state) same))
judges_by_decide (Err (Refused x)) t a m is in_time new decided = rw (is, in_time, new, decided) refl
judges_by_decide (Err NoMemory) t a m is in_time new decided = tt

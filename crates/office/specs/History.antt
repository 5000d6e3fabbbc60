-- Histories: lists of received requests, of which at most one for each caller and request key is accepted.
use Rattle.std.specs.Prelude.{ℕ, List, [], ◌∷◌, ◌++◌, map, fold, find, Bool, ◌&&◌, nat_lt, if◌then◌else◌, Option, Some}
use Rattle.std.specs.Prelude.{None, Result, Ok, Err}
use Rattle.std.specs.List.{list_any}
use Rattle.std.specs.Option.{option_map}
use Rattle.std.specs.Str.{bytes_eq}
use Rattle.text.specs.Results.{◌>>=◌, or_fault}
use Rattle.values.specs.declared.refusal.Refusal.{Refusal}
use Rattle.values.specs.declared.refusal.Refusal.TheVariants.{BadMessage, BadMoment, KeyReused}
use Rattle.message.specs.declared.kinds.Message.{Message}
use Rattle.office.specs.Messages.{message_with_text}
use Rattle.office.specs.declared.opening.Opening.{Opening}
use Rattle.office.specs.declared.arrival.Arrival.{Arrival}
use Rattle.office.specs.declared.arrival.Kept.{Kept}
use Rattle.office.specs.declared.arrival.Outcome.{Outcome}
use Rattle.office.specs.declared.arrival.Outcome.TheVariants.{Accepted, Repeated, Refused}
use Rattle.office.specs.Machine.{State, Stepped, opened, after, step}

-- a first acceptance: an arrival that was accepted, with its message and its reply
pub record First : Type 0 where
  pub arrival : Arrival
  pub message : Message
  pub reply : List ℕ

-- the stored request for a received request with this reply
abbrev pub kept_of : Arrival → List ℕ → Kept
kept_of a reply = record { caller = a.caller; key = a.key; bytes = a.bytes; reply = reply }

-- its stored row
abbrev pub kept_row : First → Kept
kept_row f = kept_of f.arrival f.reply

abbrev pub kept_by : List First → List Kept
kept_by fs = map kept_row fs

-- the row has the arrival's caller and request key
abbrev pub has_key : Arrival → Kept → Bool
has_key a k = bytes_eq k.caller a.caller && bytes_eq k.key a.key

-- and the bytes of its message too
abbrev pub is_repeat : Arrival → Kept → Bool
is_repeat a k = has_key a k && bytes_eq k.bytes a.bytes

abbrev pub refuse_if : Bool → Refusal → Result (Unit {0}) Refusal
refuse_if b r = if b then Err r else Ok tt

abbrev pub first_of_step : Arrival → Message → Stepped → First
first_of_step a m stepped = record { arrival = a; message = m; reply = stepped.reply }

-- The outcome of an arrival that isn't a repeat: the refusal with the least number, or a first acceptance. The latest
-- time is 9999-12-31 23:59:59 UTC.
abbrev pub judged : State → List Kept → Arrival → Result First Refusal
judged s kept a = do
  m ← or_fault BadMessage (message_with_text a.bytes)
  _ ← refuse_if (nat_lt 253402300799 a.moment) BadMoment
  _ ← refuse_if (list_any (has_key a) kept) KeyReused
  stepped ← step s a.caller m a.moment a.nonce
  Ok (first_of_step a m stepped)

-- the stored reply, if the arrival is a repeat
abbrev pub reply_kept : List Kept → Arrival → Option (List ℕ)
reply_kept kept a = option_map (λ k. k.reply) (find (is_repeat a) kept)

abbrev pub outcome_of : Result First Refusal → Outcome
outcome_of (Ok f) = Accepted f.reply
outcome_of (Err r) = Refused r

abbrev pub repeated_or : Option (List ℕ) → Outcome → Outcome
repeated_or (Some reply) other = Repeated reply
repeated_or None other = other

-- the stored reply if the arrival is a repeat, and otherwise the judged outcome
abbrev pub due_on : State → List Kept → Arrival → Outcome
due_on s kept a = repeated_or (reply_kept kept a) (outcome_of (judged s kept a))

-- the state with one more first acceptance
abbrev pub change : State → First → State
change s f = after s f.message f.arrival.moment f.arrival.nonce

abbrev pub state_after : Opening → List First → State
state_after o fs = fold change (opened o) fs

abbrev pub add_accepted : List First → Result First Refusal → List First
add_accepted fs (Ok f) = fs ++ f ∷ []
add_accepted fs (Err r) = fs

-- the first acceptances, and this arrival if it is one
abbrev pub with_arrival : Opening → List First → Arrival → List First
with_arrival o fs a = add_accepted fs (judged (state_after o fs) (kept_by fs) a)

-- the first acceptances of a history
abbrev pub first_accepted : Opening → List Arrival → List First
first_accepted o l = fold (with_arrival o) [] l

-- the state after a history
abbrev pub state : Opening → List Arrival → State
state o l = state_after o (first_accepted o l)

-- the specified answer to an arrival after a history
abbrev pub due : Opening → List Arrival → Arrival → Outcome
due o l a = due_on (state o l) (kept_by (first_accepted o l)) a

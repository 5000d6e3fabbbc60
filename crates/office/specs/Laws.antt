-- Definitions for the theorems about every state and every history.
use Rattle.std.specs.Prelude.{ℕ, ◌+◌, ◌≤◌, List, [], ◌∷◌, length, Bool, true, ◌&&◌, nat_le}
use Rattle.values.specs.declared.refusal.Refusal.{Refusal}
use Rattle.values.specs.Refusals.{refusal_number}
use Rattle.office.specs.declared.arrival.Outcome.{Outcome}
use Rattle.office.specs.declared.arrival.Outcome.TheVariants.{Accepted, Repeated, Refused}

-- the numbers of the refusals strictly ascend, from this one on
abbrev pub ascend_from : ℕ → List (Refusal × Bool) → Bool
ascend_from least [] = true
ascend_from least (r ∷ rs) = nat_le least (refusal_number r.0) && ascend_from (refusal_number r.0 + 1) rs

-- the reply, if there is one, has at most this many bytes
abbrev pub ReplyFits : ℕ → Outcome → Type 0
ReplyFits most (Accepted reply) = length reply ≤ most
ReplyFits most (Repeated reply) = length reply ≤ most
ReplyFits most (Refused refusal) = Unit {0}

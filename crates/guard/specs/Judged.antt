-- What the answer for an unsigned certificate (body) means, whatever stores the guard.
use Rattle.std.specs.Prelude.{◌≡◌, ◌<◌, ◌≤◌, ◌^◌, [], ◌∷◌, ℕ, List, length, Some, None}
use Rattle.std.specs.Option.{option_map}
use Rattle.lines.specs.Digests.{digest_text}
use Rattle.guard.specs.declared.approved.Approved.{Approved}
use Rattle.guard.specs.declared.body.BodyFault.{BodyFault}
use Rattle.guard.specs.declared.body.BodyFault.TheVariants as body
use Rattle.guard.specs.declared.judging.Answer.{Answer}
use Rattle.guard.specs.declared.judging.Answer.TheVariants as answer
use Rattle.guard.specs.declared.register.RegisterFault.{RegisterFault}
use Rattle.guard.specs.declared.register.RegisterFault.TheVariants as register
use Rattle.guard.specs.declared.refusal.Refusal.TheVariants.{NotABody}
use Rattle.guard.specs.Machine.{State, Question, after, body_of, fields_of, refusal_of, with_approved}
use Rattle.guard.specs.Reading.{IsFault}

-- the fault of these bytes, in an answer: a lack of memory is never one
abbrev pub IsToldFault : List ℕ → BodyFault → Type 0
IsToldFault bytes body.NoMemory = ⊥
IsToldFault bytes body.TooLong = IsFault bytes body.TooLong
IsToldFault bytes (body.NotOfTheProfile e) = IsFault bytes (body.NotOfTheProfile e)

-- the answer is the reference model's
abbrev pub Answers : Answer → State → Question → Type 0
Answers (answer.Sign serial digest) s q =
    (refusal_of s q ≡ None) × (option_map (λ c. c.serial) (fields_of q.body) ≡ Some serial)
    × (digest ≡ digest_text q.body)
Answers (answer.NotABody e) s q = (refusal_of s q ≡ Some NotABody) × IsToldFault q.body e
Answers (answer.Refuse r) s q = refusal_of s q ≡ Some r

-- a signed body is kept under its serial
abbrev pub IsKept : Answer → State → List ℕ → Type 0
IsKept (answer.Sign serial digest) s body = body_of s serial ≡ Some body
IsKept (answer.NotABody e) s body = Unit {0}
IsKept (answer.Refuse r) s body = Unit {0}

-- each answer is the reference model's, after the earlier questions, and then a signed body is kept
abbrev pub AreAnswers : List Answer → State → List Question → Type 0
AreAnswers [] s [] = Unit {0}
AreAnswers (a ∷ answers) s (q ∷ questions) =
    Answers a s q × IsKept a (after s q) q.body × AreAnswers answers (after s q) questions
AreAnswers answers s questions = ⊥

-- each row has a serial under which no body is kept, also none of the earlier rows
abbrev pub AreNew : State → List Approved → Type 0
AreNew s [] = Unit {0}
AreNew s (row ∷ rows) = (body_of s row.serial ≡ None) × AreNew (with_approved s row) rows

-- what a register has room for: numbers below 2^63, and a body of at most 16384 bytes
pub record IsKeepable (row : Approved) : Type 0 where
  pub serial : row.serial < 2 ^ 63
  pub moment : row.moment < 2 ^ 63
  pub body : length row.body ≤ 16384

-- what a fault of a register that keeps a guard implies: such a register is never damaged
abbrev pub HasCause : RegisterFault → Type 0 → Type 0
HasCause register.Device failed = failed
HasCause register.Damaged failed = ⊥
HasCause register.NoMemory failed = Unit {0}

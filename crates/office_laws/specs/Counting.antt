-- Consecutive serials.
use Rattle.std.specs.Prelude.{◌≡◌, ℕ, zero, suc, ◌+◌, List, [], ◌∷◌, ◌++◌, length, map, filter, Bool, true, false}
use Rattle.message.specs.declared.kinds.Message.{Message}
use Rattle.message.specs.declared.kinds.Message.TheVariants as message
use Rattle.office.specs.declared.opening.Opening.{Opening}
use Rattle.office.specs.declared.certificate.Certificate.{Certificate}
use Rattle.office.specs.declared.arrival.Arrival.{Arrival}
use Rattle.office.specs.Replies.{issue_reply}
use Rattle.office.specs.History.{First, first_accepted, state}

-- the n numbers first, first + 1 and so on
abbrev pub counted_from : ℕ → ℕ → List ℕ
counted_from first zero = []
counted_from first (suc n) = counted_from first n ++ (first + n) ∷ []

-- the message makes a certificate
abbrev pub is_issuing : Message → Bool
is_issuing (message.Department d) = false
is_issuing (message.Issue i) = true
is_issuing (message.Renew r) = true
is_issuing (message.Deliver d) = false
is_issuing (message.RevokeSerial serial) = false
is_issuing (message.RevokeRange r) = false
is_issuing (message.RevokeKeyId key_id) = false
is_issuing (message.Rollover k) = false

-- the replies to the first acceptances that made certificates
abbrev pub issue_replies : List First → List (List ℕ)
issue_replies fs = map (λ f. f.reply) (filter (λ f. is_issuing f.message) fs)

-- the reply to the message that made a certificate
abbrev pub reply_of : Certificate → List ℕ
reply_of c = issue_reply c.fields.serial c.body

-- the reply to the kth message that made a certificate has the kth certificate's serial and digest, and the kth serial
-- is first + k - 1
pub record CountsUp (o : Opening) (l : List Arrival) : Type 0 where
  pub replies : issue_replies (first_accepted o l) ≡ map reply_of (state o l).certificates
  pub serials : map (λ c. c.fields.serial) (state o l).certificates
      ≡ counted_from o.first (length (state o l).certificates)

-- The input that one call takes, and its answer.
use Rattle.std.specs.Prelude.{◌≡◌, ℕ, List, length, Option}
use Rattle.std.specs.Io.KnownBytes.{Consumes}
use Rattle.office.specs.declared.registry.Registry.{Ghosts}
use Rattle.web.specs.Answers.{GetsNoChange, IsAnswered, Keeps}
use Rattle.web.specs.Forms.{HasForm}
use Rattle.web.specs.Requests.{IsOneRequest}

-- the stored rows are unchanged if the register is honest and open afterwards, whatever they mean
abbrev pub LeavesRows : {S : Type 0} → Ghosts S → (old new : S) → Type 0
LeavesRows register old new = register.is_honest new → register.is_open new → register.is_as_before old new

-- Exactly one request and one nonce were taken from the bytes that the reader and the nonce source had left, and the
-- response is the one specified for them. The register then means the history followed by the request's arrival, if it
-- has one. If the ask needed the register, it preserves that history. Whatever the register means, the response has the
-- form that the request asks for, and a request that is no message, or that is refused, leaves the stored rows
-- unchanged.
pub record Served {S : Type 0} (reader reader' nonces nonces' : Option (List ℕ)) (moment : ℕ) (register : Ghosts S)
    (old new : S) : Type 0 where
  pub request : List ℕ
  pub nonce : List ℕ
  pub response : List ℕ
  pub taken : Consumes reader reader' request
  pub one : IsOneRequest reader' request
  pub nonce_taken : Consumes nonces nonces' nonce
  pub nonce_size : length nonce ≡ 32
  pub answered : register.is_honest new → IsAnswered (register.means old) (register.means new)
      (Keeps register.means register.is_open new) request moment nonce response
  pub form : HasForm request response
  pub reads : GetsNoChange request response → LeavesRows register old new

-- Exactly one request and one nonce were taken in the same way, and the register was stopped in answering them.
pub record Stopped (reader reader' nonces nonces' : Option (List ℕ)) (stops : (request nonce : List ℕ) → Type 0)
    : Type 0 where
  pub request : List ℕ
  pub nonce : List ℕ
  pub taken : Consumes reader reader' request
  pub one : IsOneRequest reader' request
  pub nonce_taken : Consumes nonces nonces' nonce
  pub nonce_size : length nonce ≡ 32
  pub stopped : stops request nonce

-- The bytes that are taken for one request.
use Rattle.std.specs.Prelude.{◌≡◌, ◌⊎◌, ◌<◌, ◌≤◌, ℕ, List, length, Option}
use Rattle.std.specs.Io.KnownBytes.{Consumes, IsAtEnd}
use Rattle.httparse.specs.Grammar.{RequestHead}
use Rattle.http_requests.specs.Heads.{IsGood}
use Rattle.http_requests.specs.Reading.{HoldsHead, NeverHolds, WaitsBefore}
use Rattle.http_requests.specs.BodySizes.{WantsBody}
use Rattle.http_requests.specs.Asks.{Ask, Asks, refused, get, post}
use Rattle.web.specs.declared.request.Request.{Request}
use Rattle.web.specs.declared.request.Request.TheVariants.{Refused, Get, Post}

-- Enough bytes to decide: they contain a head, they are at least as many as a head may have, nothing is left, or no
-- head begins with them.
abbrev pub IsEnough : (left : Option (List ℕ)) → List ℕ → Type 0
IsEnough left bytes = HoldsHead bytes ⊎ ((8192 ≤ length bytes) ⊎ (IsAtEnd left ⊎ NeverHolds bytes))

-- the shortest prefix that decides whether there is a head; if it contains a head, it is exactly the head
pub record IsFront (left : Option (List ℕ)) (bytes : List ℕ) : Type 0 where
  pub size : length bytes ≤ 8192
  pub enough : IsEnough left bytes
  pub shortest : WaitsBefore bytes

-- `size` bytes, or all there are
abbrev pub IsFilled : (left : Option (List ℕ)) → List ℕ → ℕ → Type 0
IsFilled left bytes size = (length bytes ≡ size) ⊎ ((length bytes < size) × IsAtEnd left)

-- a head that isn't refused at once, and as much of the body that it announces as there is
pub record IsWholeRequest (left : Option (List ℕ)) (bytes : List ℕ) : Type 0 where
  pub head : RequestHead
  pub body : List ℕ
  pub good : IsGood bytes head body
  pub size : ℕ
  pub wants : WantsBody head size
  pub filled : IsFilled left body size

-- no such head, and no more bytes than it takes to see that
pub record IsRefusedRequest (left : Option (List ℕ)) (bytes : List ℕ) : Type 0 where
  pub none : (h : RequestHead) (rest : List ℕ) → ¬ (IsGood bytes h rest)
  pub front : IsFront left bytes

-- the bytes of exactly one request; `left` are those after it
abbrev pub IsOneRequest : (left : Option (List ℕ)) → List ℕ → Type 0
IsOneRequest left bytes = IsWholeRequest left bytes ⊎ IsRefusedRequest left bytes

-- the ask of a request
abbrev pub request_ask : Request → Ask
request_ask (Refused r) = refused r
request_ask (Get r) = get r
request_ask (Post caller key message) = post caller key message

-- `size` bytes of the body, or all there were, were taken, and with them the request asks this
pub record TakesBody (old new : Option (List ℕ)) (size : ℕ) (ask : List ℕ → Ask) (request : Request) : Type 0 where
  pub body : List ℕ
  pub consumed : Consumes old new body
  pub filled : IsFilled new body size
  pub asks : request_ask request ≡ ask body

-- the bytes of exactly one request were taken, and they ask what the request asks
pub record IsTaken (old new : Option (List ℕ)) (request : Request) : Type 0 where
  pub bytes : List ℕ
  pub consumed : Consumes old new bytes
  pub one : IsOneRequest new bytes
  pub asks : Asks bytes (request_ask request)

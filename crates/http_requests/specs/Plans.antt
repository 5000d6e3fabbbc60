-- What a head asks for, before the bytes of its body arrive.
use Rattle.std.specs.Prelude.{◌≡◌, ◌⊎◌, ℕ, List, length, take, nat_lt, if◌then◌else◌}
use Rattle.httparse.specs.Grammar.{RequestHead}
use Rattle.values.specs.declared.refusal.Refusal.TheVariants.{BadHead, ShortBody}
use Rattle.http_requests.specs.declared.plan.Plan.{Plan}
use Rattle.http_requests.specs.declared.plan.Plan.TheVariants.{Refused, Get, Post}
use Rattle.http_requests.specs.Heads.{IsGood}
use Rattle.http_requests.specs.Asks.{Ask, HeadAsks, refused, get, post}
use Rattle.http_requests.specs.BodySizes.{WantsBody}

-- the number of body bytes that are needed
abbrev pub plan_size : Plan → ℕ
plan_size (Refused r) = 0
plan_size (Get r) = 0
plan_size (Post caller key size) = size

-- the ask for a message of `size` bytes, with these bytes after the head
abbrev pub posted_with : (caller key : List ℕ) → ℕ → List ℕ → Ask
posted_with caller key size rest =
    if nat_lt (length rest) size then refused ShortBody else post caller key (take size rest)

-- the ask with these bytes after the head
abbrev pub plan_ask : Plan → List ℕ → Ask
plan_ask (Refused r) rest = refused r
plan_ask (Get r) rest = get r
plan_ask (Post caller key size) rest = posted_with caller.now key.now size rest

-- the plan has the body size of the head, and with any bytes after the head it asks for the same as the head
pub record PlansHead (h : RequestHead) (plan : Plan) : Type 0 where
  pub wants : WantsBody h (plan_size plan)
  pub asks : (rest : List ℕ) → HeadAsks h rest (plan_ask plan rest)

-- the plan of the head that the bytes begin with, or a refusal if there is no good one
abbrev pub Plans : List ℕ → Plan → Type 0
Plans bytes plan =
    (((h : RequestHead) (rest : List ℕ) → ¬ (IsGood bytes h rest)) × (plan ≡ Refused BadHead))
    ⊎ ((h : RequestHead) × (rest : List ℕ) × IsGood bytes h rest × PlansHead h plan)

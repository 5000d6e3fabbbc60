-- Heads in bytes that are still coming.
use Rattle.std.specs.Prelude.{◌≡◌, ℕ, ◌<◌, ◌≤◌, List, [], ◌++◌, length, take}
use Rattle.httparse.specs.Grammar.{RequestHead, ReadsRequest, MayBecomeRequest}
use Rattle.http_requests.specs.declared.progress.Progress.{Progress}
use Rattle.http_requests.specs.declared.progress.Progress.TheVariants.{Whole, Waits, Hopeless}

-- the bytes begin with the head, which has a permitted number of lines, and rest comes after it
abbrev pub BeginsWith : List ℕ → RequestHead → List ℕ → Type 0
BeginsWith bytes h rest = ReadsRequest bytes h rest × (length h.fields ≤ 32)

-- the bytes begin with some head
abbrev pub HoldsHead : List ℕ → Type 0
HoldsHead bytes = (h : RequestHead) × (rest : List ℕ) × BeginsWith bytes h rest

-- the bytes don't begin with a head
abbrev pub HoldsNone : List ℕ → Type 0
HoldsNone bytes = (h : RequestHead) (rest : List ℕ) → ¬ (BeginsWith bytes h rest)

-- the bytes don't begin with a head, whatever follows
abbrev pub NeverHolds : List ℕ → Type 0
NeverHolds bytes = (more : List ℕ) → HoldsNone (bytes ++ more)

-- if the bytes begin with a head, nothing follows it
abbrev pub IsNoMore : List ℕ → Type 0
IsNoMore bytes = (h : RequestHead) (rest : List ℕ) → BeginsWith bytes h rest → rest ≡ []

-- the progress of a head in these bytes
abbrev pub HasCome : Progress → List ℕ → Type 0
HasCome Whole bytes = HoldsHead bytes
HasCome Waits bytes = HoldsNone bytes × MayBecomeRequest bytes
HasCome Hopeless bytes = NeverHolds bytes

-- no shorter prefix holds a head, but each may become one
abbrev pub WaitsBefore : List ℕ → Type 0
WaitsBefore bytes = (n : ℕ) → n < length bytes → HasCome Waits (take n bytes)

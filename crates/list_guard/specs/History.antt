-- Sequences of questions, and properties of the lists that were approved.
use Rattle.std.specs.Prelude.{◌≡◌, ◌≤◌, ◌⊎◌, ℕ, List, [], ◌∷◌, Option, Some, None}
use Rattle.std.specs.List.{AllByRecursion}
use Rattle.krl.specs.Contents.{KrlContents, ForgetsNothing, Publishes, list_of}
use Rattle.list_guard.specs.Machine.{State, Question, IsApproved, with_last}
use Rattle.list_guard.specs.Sizes.{list_size}

-- These lists are approved, in this order, and the guard is left in this state.
abbrev pub Approves : State → List Question → List (List ℕ) → State → Type 0
Approves s [] lists t = (lists ≡ []) × (t ≡ s)
Approves s (q ∷ qs) lists t =
    ((others : List (List ℕ)) × IsApproved s q × (lists ≡ q.list ∷ others) × Approves (with_last q.list) qs others t)
    ⊎ ((IsApproved s q → ⊥) × Approves s qs lists t)

-- a later list: its version is no lower, its bytes are the same if its version is, and it revokes no less
pub record IsLater (a b : List ℕ) (c d : KrlContents) : Type 0 where
  pub version : c.head.version ≤ d.head.version
  pub same : c.head.version ≡ d.head.version → a ≡ b
  pub kept_revoked : ForgetsNothing (list_of c) (list_of d)

abbrev pub ComesLater : List ℕ → List ℕ → Type 0
ComesLater a b = (c d : KrlContents) → Publishes a c → Publishes b d → IsLater a b c d

-- each list is later than each of those before it
abbrev pub Grow : List (List ℕ) → Type 0
Grow [] = Unit {0}
Grow (a ∷ lists) = AllByRecursion (ComesLater a) lists × Grow lists

-- the version of a list is no higher than its size
abbrev pub IsAccountedFor : List ℕ → Type 0
IsAccountedFor list = (c : KrlContents) → Publishes list c → c.head.version ≤ list_size (list_of c)

-- ---- calls that fail, and crashes

-- one call: the question, and the list that was stated, if one was
pub record Call : Type 0 where
  pub asked : Question
  pub told : Option (List ℕ)

-- The possible results of a call. A list is stated only if it was approved. If none is stated, because of a refusal, a
-- fault or a crash, the kept list stays, or the list in question replaces it, if it was approved.
abbrev pub Comes : State → Question → Option (List ℕ) → State → Type 0
Comes s q (Some list) t = (list ≡ q.list) × IsApproved s q × (t ≡ with_last q.list)
Comes s q None t = (t ≡ s) ⊎ (IsApproved s q × (t ≡ with_last q.list))

-- a sequence of calls, each with any of its possible results
abbrev pub Lives : State → List Call → State → Type 0
Lives s [] t = t ≡ s
Lives s (call ∷ calls) t = (u : State) × Comes s call.asked call.told u × Lives u calls t

-- the lists that the calls stated, in order
abbrev pub before : Option (List ℕ) → List (List ℕ) → List (List ℕ)
before None lists = lists
before (Some list) lists = list ∷ lists

abbrev pub stated : List Call → List (List ℕ)
stated [] = []
stated (call ∷ calls) = before call.told (stated calls)

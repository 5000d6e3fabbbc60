-- The state of the reference model, and its questions.
use Rattle.std.specs.Prelude.{ℕ, List, Bool, Option, None, Some, MatchOption}
use Rattle.krl.specs.Contents.{IsPublished}

pub record State : Type 0 where
  -- the bytes of the list that was approved last, if there is one
  pub last : Option (List ℕ)

-- a guard that has approved nothing yet
abbrev pub opened : State
opened = record { last = None }

-- the guard that approved this list last
abbrev pub with_last : List ℕ → State
with_last list = record { last = Some list }

-- the kept list, if there is one, is a published list
abbrev pub IsLawful : State → Type 0
IsLawful s = MatchOption s.last (Unit {0}) IsPublished

-- the question whether a list is the office's next one
pub record Question : Type 0 where
  -- the keys of the CAs that the list may name
  pub cas : List (List ℕ)
  -- whether a first list is accepted
  pub begins : Bool
  pub list : List ℕ

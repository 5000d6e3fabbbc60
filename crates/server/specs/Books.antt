-- A listener's record of its connections.
use Rattle.std.specs.Prelude.{◌≡◌, List, [], ◌∷◌, ◌++◌, ℕ, Bool, Option, None, Some}

-- a future connection: the bytes that it sends, and the time on the clock when it is accepted
pub record Coming : Type 0 where
  pub sent : List ℕ
  pub moment : ℕ

-- what was written on a connection, and whether it was ended as one whose entire response was written
pub record Written : Type 0 where
  pub bytes : List ℕ
  pub whole : Bool

-- the connections that are still to come, and what was written on each of those that were handled
pub record Book : Type 0 where
  pub coming : List Coming
  pub written : List Written

-- this connection was the next, it was handled, and this was written on it
pub record IsMet (old new : Book) (next : Coming) (written : Written) : Type 0 where
  pub coming : old.coming ≡ next ∷ new.coming
  pub kept : new.written ≡ old.written ++ written ∷ []

-- a relation between two books, which holds trivially if the listener has none
abbrev pub WhereTold : {A : Type 0} → (A → A → Type 0) → (old new : Option A) → Type 0
WhereTold holds None new = Unit {0}
WhereTold holds (Some old) None = ⊥
WhereTold holds (Some old) (Some new) = holds old new

-- The next connection was accepted at this time: its reader returns what it sends, and its writer has taken nothing.
pub record IsConnectionAccepted (reader writer : Option (List ℕ)) (moment : ℕ) (old new : Book) : Type 0 where
  pub sent : List ℕ
  pub coming : old.coming ≡ record { sent = sent; moment = moment } ∷ new.coming
  pub kept : new.written ≡ old.written
  pub gives : reader ≡ Some sent
  pub silent : writer ≡ Some []

-- a connection ended, and it is recorded which bytes its writer took, and whether these are the entire response
pub record IsEnded (writer : Option (List ℕ)) (whole : Bool) (old new : Book) : Type 0 where
  pub bytes : List ℕ
  pub took : writer ≡ Some bytes
  pub coming : new.coming ≡ old.coming
  pub kept : new.written ≡ old.written ++ record { bytes = bytes; whole = whole } ∷ []

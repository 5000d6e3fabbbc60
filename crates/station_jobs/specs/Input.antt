-- Batches of bodies (unsigned certificates) from an input.
use Rattle.std.specs.Prelude.{◌≡◌, ◌⊎◌, ◌≤◌, ◌++◌, ◌∷◌, ℕ, List, All, codes, decimal, length, Option, Some, None}
use Rattle.std.specs.Prelude.{IfSome, Result, Ok, Err, []}
use Rattle.std.specs.List.{flat_map}
use Rattle.std.specs.Io.BufRead.{drop_through, take_through}
use Rattle.std.specs.Io.KnownBytes.{Consumes, IsAtEnd}
use Rattle.guard.specs.Machine.{State, Question}
use Rattle.station_jobs.specs.declared.station_fault.StationFault.{StationFault}
use Rattle.station_jobs.specs.Judging.{Judges}

-- `line` is the first line, with its line feed if it has one, and is removed from the input; at the end it is empty
abbrev pub TakesLine : (old new : Option (List ℕ)) → List ℕ → Type 0
TakesLine old new line = IfSome old (λ text. (line ≡ take_through 10 text) × (new ≡ Some (drop_through 10 text)))

-- ---- the form of the input

-- a number as a line
abbrev pub number_line : ℕ → List ℕ
number_line n = decimal n ++ 10 ∷ []

-- a body with its length before it
abbrev pub body_text : List ℕ → List ℕ
body_text body = number_line (length body) ++ body

-- bodies with their number before them
abbrev pub batch_text : List (List ℕ) → List ℕ
batch_text bodies = (codes "judge " ++ number_line (length bodies)) ++ flat_map body_text bodies

-- a length that a body may have
abbrev pub HasLength : List ℕ → Type 0
HasLength body = (1 ≤ length body) × (length body ≤ 16384)

-- how many bodies come together
pub record IsBatch (bodies : List (List ℕ)) : Type 0 where
  pub least : 1 ≤ length bodies
  pub most : length bodies ≤ 64
  pub lengths : All HasLength bodies

-- the input begins with this batch, which is removed from it
abbrev pub TakesBatch : (old new : Option (List ℕ)) → List (List ℕ) → Type 0
TakesBatch old new bodies = IsBatch bodies × Consumes old new (batch_text bodies)

-- the text consists of these batches; or after a fault it begins with them
abbrev pub AreBatches : List (List (List ℕ)) → List ℕ → Result (Unit {0}) StationFault → Type 0
AreBatches batches text (Ok done) = All IsBatch batches × (text ≡ flat_map batch_text batches)
AreBatches batches text (Err e) =
    All IsBatch batches × ((left : List ℕ) × (text ≡ flat_map batch_text batches ++ left))

-- ---- judging

-- The bodies of the next batch were judged. Or the input is at its end, or has no such batch, and nothing was judged.
abbrev pub JudgesNext : {A : Type 0} (s : State) (Left : State → Result (Unit {0}) StationFault → Type 0)
    (Asked : List ℕ → Question → Type 0) (old new held holds : Option (List ℕ)) → Result (Option A) StationFault
    → Type 0
JudgesNext s Left Asked old new held holds (Ok (Some x)) =
    (bodies : List (List ℕ)) × TakesBatch old new bodies × Judges 64 s Left Asked bodies held holds (Ok tt)
JudgesNext s Left Asked old new held holds (Ok None) = IsAtEnd old × Left s (Ok tt) × (holds ≡ held)
JudgesNext s Left Asked old new held holds (Err e) =
    ((bodies : List (List ℕ)) × TakesBatch old new bodies × Judges 64 s Left Asked bodies held holds (Err e))
    ⊎ (Left s (Err e) × (holds ≡ held))

-- the bodies of an input were judged, batch by batch
pub record JudgesInput (s : State) (Left : State → Result (Unit {0}) StationFault → Type 0)
    (Asked : List ℕ → Question → Type 0) (input held holds : Option (List ℕ)) (result : Result (Unit {0}) StationFault)
    : Type 0 where
  pub batches : List (List (List ℕ))
  pub are : IfSome input (λ text. AreBatches batches text result)
  pub judges : Judges 64 s Left Asked (flat_map (λ bodies. bodies) batches) held holds result

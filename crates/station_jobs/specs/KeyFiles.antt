-- Files with a public-key line.
use Rattle.std.specs.Prelude.{◌≡◌, ◌≢◌, ◌⊎◌, ◌++◌, ◌∷◌, [], ℕ, List, IsTrue, Option, IfSome}
use Rattle.lines.specs.declared.key_line.KeyLine.{KeyLine}
use Rattle.lines.specs.declared.key_line.LineFault.{LineFault}
use Rattle.lines.specs.declared.key_line.LineFault.TheVariants as line_fault
use Rattle.lines.specs.KeyLines.{is_key_line, key_line_text}
use Rattle.lines.specs.Reading.{IsLineFault}
use Rattle.station_jobs.specs.declared.station_fault.StationFault.{StationFault}
use Rattle.station_jobs.specs.declared.station_fault.StationFault.TheVariants as fault

-- the text is this valid public-key line, with or without a line feed at its end
pub record IsKeyText (text : List ℕ) (k : KeyLine) : Type 0 where
  pub lawful : IsTrue (is_key_line k)
  pub line : (text ≡ key_line_text k) ⊎ (text ≡ key_line_text k ++ 10 ∷ [])

-- the line of a text: what comes before a line feed at its end, or the whole text if it has none
abbrev pub IsLineOf : (text line : List ℕ) → Type 0
IsLineOf text line = (text ≡ line ++ 10 ∷ []) ⊎ ((text ≡ line) × ((front : List ℕ) → text ≢ front ++ 10 ∷ []))

-- this is the first fault of the text's line
abbrev pub HasLineFault : List ℕ → LineFault → Type 0
HasLineFault text e = (line : List ℕ) × IsLineOf text line × IsLineFault line e × (e ≢ line_fault.NoMemory)

-- The faults of reading the key of a file with this content. A fault of the line is the first one that the line has.
abbrev pub IsKeyFault : Option (List ℕ) → StationFault → Type 0
IsKeyFault file fault.File = Unit {0}
IsKeyFault file fault.NoMemory = Unit {0}
IsKeyFault file (fault.Line e) = IfSome file (λ text. HasLineFault text e)
IsKeyFault file other = ⊥

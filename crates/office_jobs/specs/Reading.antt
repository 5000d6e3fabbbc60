-- What the contents of a file mean.
use Rattle.std.specs.Prelude.{◌≡◌, ◌≢◌, ◌⊎◌, ◌++◌, ◌∷◌, [], ℕ, List, IfSome, IsTrue, Option}
use Rattle.lines.specs.declared.key_line.KeyLine.{KeyLine}
use Rattle.lines.specs.declared.key_line.LineFault.{LineFault}
use Rattle.lines.specs.declared.key_line.LineFault.TheVariants as line_fault
use Rattle.lines.specs.KeyLines.{is_key_line, key_line_text}
use Rattle.lines.specs.Reading.{IsLineFault}
use Rattle.office_jobs.specs.declared.job_fault.JobFault.{JobFault}
use Rattle.office_jobs.specs.declared.job_fault.JobFault.TheVariants.{File, Line, NoMemory}

-- the text is this valid public-key line, with or without a line feed at its end
pub record IsKeyText (text : List ℕ) (k : KeyLine) : Type 0 where
  pub lawful : IsTrue (is_key_line k)
  pub line : (text ≡ key_line_text k) ⊎ (text ≡ key_line_text k ++ 10 ∷ [])

-- the text, without a line feed at its end
abbrev pub IsLineOf : (text line : List ℕ) → Type 0
IsLineOf text line = (text ≡ line ++ 10 ∷ []) ⊎ ((text ≡ line) × ((front : List ℕ) → text ≢ front ++ 10 ∷ []))

-- the line of this text has this fault
abbrev pub HasLineFault : (text : List ℕ) → LineFault → Type 0
HasLineFault text fault = (line : List ℕ) × IsLineOf text line × IsLineFault line fault

-- Why there is no key in this file: the file can't be read, memory was refused, or its line has this fault.
abbrev pub HasNoKey : (file : Option (List ℕ)) → JobFault → Type 0
HasNoKey file File = Unit {0}
HasNoKey file NoMemory = Unit {0}
HasNoKey file (Line line_fault.NoMemory) = ⊥
HasNoKey file (Line fault) = IfSome file (λ text. HasLineFault text fault)
HasNoKey file other = ⊥

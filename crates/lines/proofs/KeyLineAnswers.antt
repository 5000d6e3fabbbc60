-- From reading by the definitions to the result of a function.
use Rattle.std.proofs.Common.{◌≡◌, ◌≢◌, ℕ, List, Result, Ok, Err, sym, ap, subst, ◌∙◌}
use Rattle.std.specs.Prelude.{IsTrue, IsOk, IfErr}
use Rattle.text.specs.Bytes.{IsBytes}
use Rattle.lines.specs.KeyLines.{is_key_line, key_line_text}
use Rattle.lines.specs.Reading.{key_line_at, GivesKeyLine, IsLineFault, IsKeyLineText}
use Rattle.lines.specs.declared.key_line.KeyLine.{KeyLine}
use Rattle.lines.specs.declared.key_line.LineFault.{LineFault}
use Rattle.lines.specs.declared.key_line.LineFault.TheVariants.{NoMemory}
use Rattle.lines.proofs.KeyLineLaws.{Says, fault_again, key_line_again, key_line_says}

-- The text of a valid line was read, unless memory was refused.
pub only_from : (line : List ℕ) (r : Result KeyLine LineFault) (k : KeyLine) → IsTrue (is_key_line k)
    → line ≡ key_line_text k → GivesKeyLine r (key_line_at line) → GivesKeyLine r (Ok k)
only_from line r k lawful text given = subst (GivesKeyLine r) (ap key_line_at text ∙ key_line_again k lawful) given

-- A reported fault is present in the text.
pub fault_from : (line : List ℕ) (r : Result KeyLine LineFault) → IsBytes line → GivesKeyLine r (key_line_at line)
    → IfErr r (IsLineFault line)
fault_from line (Ok k) fits given = tt
fault_from line (Err NoMemory) fits given = lawful (key_line_at line) given (key_line_says line fits)
  where
    lawful : (read : Result KeyLine LineFault) → IsOk read → Says line read → IsKeyLineText line
    lawful (Ok k) ok says = (k, says.0, says.1)
    lawful (Err e) ok says = absurd cc
fault_from line (Err e) fits given = subst (Says line) given (key_line_says line fits)

-- the result is a fault if reading gives that fault
given_fault : (r : Result KeyLine LineFault) (e : LineFault) → GivesKeyLine r (Err e) → r ≡ Err e
given_fault (Ok k) e given = absurd cc
given_fault (Err NoMemory) e given = absurd cc
given_fault (Err f) e given = sym given

-- A fault that is present in the text was reported.
pub answered_from : (line : List ℕ) (r : Result KeyLine LineFault) (e : LineFault) → IsBytes line → e ≢ NoMemory
    → IsLineFault line e → GivesKeyLine r (key_line_at line) → r ≡ Err e
answered_from line r e fits other fault given =
    given_fault r e (subst (GivesKeyLine r) (fault_again line e fits other fault) given)

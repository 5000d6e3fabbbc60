-- The key of a file, or its fault.
use Rattle.std.proofs.Common.{◌≡◌, ◌≢◌, inl, inr, ℕ, List, [], ◌∷◌, ◌++◌, Option, Some, None, Bor, sym, ap, subst, ◌∙◌}
use Rattle.std.specs.Prelude.{IfSome, IsTrue, MatchOption}
use Rattle.std.specs.Option.{unwrap_or}
use Rattle.lines.specs.declared.key_line.KeyLine.{KeyLine}
use Rattle.lines.specs.declared.key_line.LineFault.{LineFault}
use Rattle.lines.specs.declared.key_line.LineFault.TheVariants as bad
use Rattle.lines.specs.KeyLines.{is_key_line, key_line_text}
use Rattle.lines.specs.Reading.{IsLineFault}
use Rattle.station_jobs.specs.declared.station_fault.StationFault.{StationFault}
use Rattle.station_jobs.specs.declared.station_fault.StationFault.TheVariants as fault
use Rattle.station_jobs.specs.Faults.{IsOfAFile, of_line}
use Rattle.station_jobs.specs.KeyFiles.{IsKeyFault, IsKeyText, IsLineOf}

-- what is left of a text without the line feed at its end is its line
pub is_line : (text end : List ℕ) (r : Option (Bor (List ℕ))) (whole line : Bor (List ℕ)) → end ≡ 10 ∷ []
    → MatchOption r ((front : List ℕ) → text ≢ front ++ end) (λ x. text ≡ x.now ++ end) → line ≡ unwrap_or r whole
    → whole.now ≡ text → IsLineOf text line.now
is_line text end None whole line feed cut chosen same =
    let is : text ≡ line.now = sym same ∙ ap (λ b. b.now) (sym chosen) in
    inr (is, λ front at. cut front (at ∙ ap (λ e. front ++ e) (sym feed)))
is_line text end (Some x) whole line feed cut chosen same =
    inl (cut ∙ (ap (λ e. x.now ++ e) feed ∙ ap (λ b. b.now ++ 10 ∷ []) (sym chosen)))

pub key_text : (text line : List ℕ) (k : KeyLine) → IsLineOf text line
    → IsTrue (is_key_line k) × (line ≡ key_line_text k) → IsKeyText text k
key_text text line k (inl feed) found =
    record { lawful = found.0; line = inr (feed ∙ ap (λ l. l ++ 10 ∷ []) found.1) }
key_text text line k (inr whole) found = record { lawful = found.0; line = inl (whole.0 ∙ found.1) }

pub line_fault : (text at : List ℕ) (e : LineFault) → IsLineOf text at → IsLineFault at e
    → IsKeyFault (Some text) (of_line e)
line_fault text at bad.NoMemory is has = tt
line_fault text at bad.WrongType is has = (at, is, has, λ same. absurd cc)
line_fault text at bad.BadBase64 is has = (at, is, has, λ same. absurd cc)
line_fault text at bad.BadBlob is has = (at, is, has, λ same. absurd cc)
line_fault text at bad.BadComment is has = (at, is, has, λ same. absurd cc)

-- a fault of reading a file is one of reading its key
pub of_a_file : (file : Option (List ℕ)) (e : StationFault) → IsOfAFile e → IsKeyFault file e
of_a_file file fault.File h = tt
of_a_file file fault.NoMemory h = tt
of_a_file file other h = absurd h

-- a fault of the bytes that a file gave is one of the file
pub of_bytes : (file : Option (List ℕ)) (bytes : List ℕ) (e : StationFault) → IfSome file (λ text. bytes ≡ text)
    → IsKeyFault (Some bytes) e → IsKeyFault file e
of_bytes None bytes fault.File same h = tt
of_bytes None bytes fault.NoMemory same h = tt
of_bytes None bytes (fault.Line e) same h = tt
of_bytes None bytes other same h = absurd h
of_bytes (Some text) bytes e same h = subst (λ (t : List ℕ). IsKeyFault (Some t) e) same h

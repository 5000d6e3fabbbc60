use Rattle.office_jobs.proofs.Words.{Bor, IsKeyText, IsTrue, KeyLine, List, None, Option, Some, [], ap, inl, inr, refl}
use Rattle.office_jobs.proofs.Words.{subst, sym, ℕ, ◌++◌, ◌∙◌, ◌∷◌, ◌≡◌, ◌≢◌}
use Rattle.std.specs.Prelude.{MatchOption}
use Rattle.std.specs.Option.{unwrap_or}
use Rattle.std.proofs.lemmas.Slice.Eq.{strip_suffix_is}
use Rattle.std.proofs.lemmas.Bool.Decides.{Decides-eqb}
use Rattle.lines.specs.KeyLines.{is_key_line, key_line_text}
use Rattle.office_jobs.specs.Reading.{HasNoKey, IsLineOf}
use Rattle.office_jobs.proofs.Causes.{key_line}
use Rattle.office_jobs.proofs.file_reader.key_in.Goals as goal

-- the line that is read is that of the text
line_of : (text end : List ℕ) (r : Option (Bor (List ℕ))) (whole line : Bor (List ℕ)) → end ≡ 10 ∷ []
    → MatchOption r ((front : List ℕ) → text ≢ front ++ end) (λ x. text ≡ x.now ++ end) → line ≡ unwrap_or r whole
    → whole.now ≡ text → IsLineOf text line.now
line_of text end None whole line feed cut chosen same =
    inr (sym same ∙ ap (λ b. b.now) (sym chosen), λ front is. cut front (is ∙ ap (λ e. front ++ e) (sym feed)))
line_of text end (Some x) whole line feed cut chosen same =
    inl (cut ∙ (ap (λ t. t ++ end) (ap (λ b. b.now) (sym chosen)) ∙ ap (λ e. line.now ++ e) feed))

key_text : (text line : List ℕ) (k : KeyLine) → IsLineOf text line → IsTrue (is_key_line k) × (line ≡ key_line_text k)
    → IsKeyText text k
key_text text line k (inl fed) found =
    record { lawful = found.0; line = inr (fed ∙ ap (λ t. t ++ 10 ∷ []) found.1) }
key_text text line k (inr bare) found = record { lawful = found.0; line = inl (bare.0 ∙ found.1) }

pub returns-in-Ok-clause-key : goal.returns-in-Ok-clause-key
returns-in-Ok-clause-key c =
    key_text c.args.text.now c.unwrap_or-line.result.now c.in-Ok.key
    (line_of c.args.text.now c.as_slice.result.now c.strip_suffix.result c.args.text c.unwrap_or-line.result
    c.as_slice.ensures
    (strip_suffix_is Decides-eqb c.args.text.now c.as_slice.result.now c.strip_suffix.result
    c.strip_suffix.ensures.cases)
    c.unwrap_or-line.ensures refl)
    c.in-Ok.ensures.found

pub returns-in-Err-clause-fault : goal.returns-in-Err-clause-fault
returns-in-Err-clause-fault c =
    subst (HasNoKey (Some c.args.text.now)) (sym c.from.ensures)
    (key_line c.args.text.now c.unwrap_or-line.result.now
    (line_of c.args.text.now c.as_slice.result.now c.strip_suffix.result c.args.text c.unwrap_or-line.result
    c.as_slice.ensures
    (strip_suffix_is Decides-eqb c.args.text.now c.as_slice.result.now c.strip_suffix.result
    c.strip_suffix.ensures.cases)
    c.unwrap_or-line.ensures refl)
    c.in-Err.fault c.in-Err.ensures.fault)

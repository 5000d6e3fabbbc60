-- Issues from their option lines on.
use Rattle.message.proofs.Words.{Err, Issue, List, None, Ok, Pair, Result, Some, [], ap, append-nil}
use Rattle.message.proofs.Words.{append_assoc, are_extension_names, arith, codes, cond, drop, drop-append_seam}
use Rattle.message.proofs.Words.{ends_after, inl, inr, is_new_option, length, length-append, line_of, list_line, map}
use Rattle.message.proofs.Words.{option_after, option_line, or_fault, refl, subst, suc, sym, true, zero, ℕ, ◌++◌, ◌+◌}
use Rattle.message.proofs.Words.{◌>>=◌, ◌∙◌, ◌∷◌, ◌≡◌, ◌≤◌, ◌⊎◌}
use Rattle.lines.specs.declared.subject_line.SubjectLine.{SubjectLine}
use Rattle.std.proofs.Math.Seq.{drop-length}
use Rattle.message.specs.Reading.{list_after, options_from}
use Rattle.message.proofs.Readings.{IsReading, same_messages}
use Rattle.message.proofs.Ends.{then_end}
use Rattle.message.proofs.Choices.{line_or, line_then}
use Rattle.message.proofs.Fields.{list_field}
use Rattle.message.proofs.Elements.{extension_names_lack}
use Rattle.message.proofs.Options.{option_field}
use Rattle.message.proofs.PairLines as pair_lines

module _ (department key_id : List ℕ) (key : SubjectLine) (principals : List (List ℕ)) (after before : ℕ) where
  -- the issue with these options and extensions
  abbrev whole : List Pair → List (List ℕ) → Issue
  whole options extensions = record {
    department = department;
    key_id = key_id;
    key = key;
    principals = principals;
    after = after;
    before = before;
    options = options;
    extensions = extensions;
  }

  -- reading the line of extensions, as line n, and then the end; m is the number of the line after it
  abbrev tail_at : ℕ → ℕ → List Pair → List (List ℕ) → Result Issue ℕ
  tail_at n m options ps =
      or_fault n (list_after are_extension_names (codes "extensions") (line_of n ps)) >>=
      (λ extensions. cond (ends_after n ps) (Ok (whole options extensions)) (Err m))

  abbrev tail : List Pair → List (List ℕ) → Result Issue ℕ
  tail options ps = tail_at (7 + length options) (8 + length options) options ps

  -- An issue with exactly these options.
  abbrev IsStop : List Pair → Issue → Type 0
  IsStop options i = (are_extension_names i.extensions ≡ true) × (i ≡ whole options i.extensions)

  abbrev last_lines : Issue → List (List ℕ)
  last_lines i = list_line (codes "extensions") i.extensions ∷ []

  stop_from : (k : ℕ) (options : List Pair)
      → IsReading k (tail_at (suc k) (suc (suc k)) options) (IsStop options) last_lines
  stop_from k options =
      line_then k _ _ _ (λ i. i.extensions) _ _ _ (list_field (codes "extensions") are_extension_names refl refl
      extension_names_lack) [] refl (λ extensions _. then_end (suc k) (whole options extensions))
      (λ x i e. ap (λ (i : Issue). i.extensions) e)

  pub stop_reads : (k : ℕ) (options : List Pair) → k ≡ 6 + length options
      → IsReading k (tail options) (IsStop options) last_lines
  stop_reads k options e =
      let here : suc k ≡ 7 + length options = omega arith in
      let next : suc (suc k) ≡ 8 + length options = omega arith in
      subst (λ (m : ℕ). IsReading k (tail_at (7 + length options) m options) (IsStop options) last_lines) next
      (subst (λ (n : ℕ). IsReading k (tail_at n (suc (suc k)) options) (IsStop options) last_lines) here
      (stop_from k options))

  -- the line of extensions isn't an option line
  pub stops : (options : List Pair) (i : Issue) → IsStop options i
      → (l : List ℕ) × (ls : List (List ℕ)) × (last_lines i ≡ l ∷ ls) × (option_after options l ≡ None)
  stops options i is = (list_line (codes "extensions") i.extensions, [], refl, no_option i.extensions)
    where
      no_option : (ts : List (List ℕ)) → option_after options (list_line (codes "extensions") ts) ≡ None
      no_option [] = refl
      no_option (t ∷ ts) = refl

  pub same_options : (options : List Pair) (i : Issue) → IsStop options i → i.options ≡ options
  same_options options i is = ap (λ (i : Issue). i.options) is.1

  -- An issue whose options are these, followed by at most `most` more.
  abbrev pub IsAfter : ℕ → List Pair → Issue → Type 0
  IsAfter =
      pair_lines.IsAfter 6 option_after option_line is_new_option (λ i. i.options) tail IsStop last_lines option_field
      stop_reads same_options stops

  pub options_read : (most k : ℕ) (options : List Pair) → k ≡ 6 + length options
      → IsReading k (λ ps. tail (options_from most (suc k) options ps) ps) (IsAfter most options)
      (λ i. map option_line (drop (length options) i.options) ++ last_lines i)
  options_read =
      pair_lines.pairs_read 6 option_after option_line is_new_option (λ i. i.options) tail IsStop last_lines option_field
      stop_reads same_options stops

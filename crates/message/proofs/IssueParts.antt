-- Reading an issue is the same as reading its parts.
use Rattle.message.proofs.Words.{Bool, Err, Issue, List, Ok, Pair, Result, [], are_extension_names, codes}
use Rattle.message.proofs.Words.{are_principals, both, cond, ends_after, false, is_end, key_id_after, length}
use Rattle.message.proofs.Words.{line_of, number_after, or_fault, refl, true, ℕ, ◌+◌, ◌>>=◌, ◌≡◌}
use Rattle.lines.specs.declared.subject_line.SubjectLine.{SubjectLine}
use Rattle.message.specs.Reading.{subject_line_after, issue_in, list_after, name_after, options_from}
use Rattle.message.specs.Parts.{Subject, Terms, extras_in, issue_of}

module _ (options : List Pair) (m : ℕ) where
  -- the issue from the outcomes of its lines, in order
  abbrev in_turn : Result (List ℕ) ℕ → Result (List ℕ) ℕ → Result SubjectLine ℕ → Result (List (List ℕ)) ℕ → Result ℕ ℕ
      → Result ℕ ℕ → Result (List (List ℕ)) ℕ → Bool → Result Issue ℕ
  in_turn a b c d e f x ends = do
    department ← a
    key_id ← b
    key ← c
    principals ← d
    after ← e
    before ← f
    extensions ← x
    cond ends (Ok (record {
      department = department;
      key_id = key_id;
      key = key;
      principals = principals;
      after = after;
      before = before;
      options = options;
      extensions = extensions;
    })) (Err m)

  -- its options and extensions
  abbrev extras_of : Result (List (List ℕ)) ℕ → Bool → Result (List Pair × List (List ℕ)) ℕ
  extras_of x ends = x >>= (λ extensions. cond ends (Ok (options, extensions)) (Err m))

  by_parts : (a b : Result (List ℕ) ℕ) (c : Result SubjectLine ℕ) (d : Result (List (List ℕ)) ℕ) (e f : Result ℕ ℕ)
      (x : Result (List (List ℕ)) ℕ) (ends : Bool) → in_turn a b c d e f x ends
      ≡ (both (both (both a b) (both c d)) (both (both e f) (extras_of x ends))
      >>= (λ parts. Ok (issue_of parts.0 parts.1)))
  by_parts (Err n) b c d e f x ends = refl
  by_parts (Ok a) (Err n) c d e f x ends = refl
  by_parts (Ok a) (Ok b) (Err n) d e f x ends = refl
  by_parts (Ok a) (Ok b) (Ok c) (Err n) e f x ends = refl
  by_parts (Ok a) (Ok b) (Ok c) (Ok d) (Err n) f x ends = refl
  by_parts (Ok a) (Ok b) (Ok c) (Ok d) (Ok e) (Err n) x ends = refl
  by_parts (Ok a) (Ok b) (Ok c) (Ok d) (Ok e) (Ok f) (Err n) ends = refl
  by_parts (Ok a) (Ok b) (Ok c) (Ok d) (Ok e) (Ok f) (Ok x) false = refl
  by_parts (Ok a) (Ok b) (Ok c) (Ok d) (Ok e) (Ok f) (Ok x) true = refl

module _ (ps : List (List ℕ)) where
  abbrev pub subject_in : Result Subject ℕ
  subject_in =
      both (both (or_fault 1 (name_after (codes "issue ") (line_of 1 ps)))
      (or_fault 2 (key_id_after (codes "keyid ") (line_of 2 ps))))
      (both (or_fault 3 (subject_line_after (codes "key ") (line_of 3 ps)))
      (or_fault 4 (list_after are_principals (codes "principals") (line_of 4 ps))))

  abbrev pub terms_in : Result Terms ℕ
  terms_in =
      both (both (or_fault 5 (number_after is_end (codes "after ") (line_of 5 ps)))
      (or_fault 6 (number_after is_end (codes "before ") (line_of 6 ps)))) (extras_in ps)

  pub in_parts : issue_in ps ≡ (both subject_in terms_in >>= (λ parts. Ok (issue_of parts.0 parts.1)))
  unfolding issue_in extras_in
  in_parts =
      let options = options_from 3 7 [] ps in
      by_parts options (8 + length options) (or_fault 1 (name_after (codes "issue ") (line_of 1 ps)))
      (or_fault 2 (key_id_after (codes "keyid ") (line_of 2 ps)))
      (or_fault 3 (subject_line_after (codes "key ") (line_of 3 ps)))
      (or_fault 4 (list_after are_principals (codes "principals") (line_of 4 ps)))
      (or_fault 5 (number_after is_end (codes "after ") (line_of 5 ps)))
      (or_fault 6 (number_after is_end (codes "before ") (line_of 6 ps)))
      (or_fault (7 + length options)
      (list_after are_extension_names (codes "extensions") (line_of (7 + length options) ps)))
      (ends_after (7 + length options) ps)

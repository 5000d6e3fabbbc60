-- Issues: a text is read exactly when it is an issue's, and a fault is at the first bad line.
use Rattle.message.proofs.Words.{Issue, List, Pair, [], and_from, and_parts, ap, are_principals, codes, is_end}
use Rattle.message.proofs.Words.{is_issue, is_key_id, is_name, issue_lines, leb-true, refl, subst, sym}
use Rattle.message.proofs.Words.{true, ◌∷◌, ◌≡◌}
use Rattle.std.proofs.lemmas.Bool.{le-leb}
use Rattle.message.specs.Values.{are_options}
use Rattle.message.specs.Reading.{issue_in}
use Rattle.message.proofs.Readings.{IsReading, and_then, same_values}
use Rattle.message.proofs.Choices.{line_then}
use Rattle.message.proofs.Fields.{text_field, list_field}
use Rattle.message.proofs.Elements.{name_lacks, key_id_line, principals_lack}
use Rattle.message.proofs.Numbers.{number_field, end_small}
use Rattle.message.proofs.Options.{options_are_new, new_are_options}
use Rattle.lines.specs.SubjectLines.{is_subject_line}
use Rattle.message.proofs.Keys.{some_subject, subject_field}
use Rattle.message.proofs.IssueEnds.{IsAfter, options_read}

-- The values of an issue's lines, in order, are valid, and there are no others.
abbrev IsWhole : Issue → Type 0
IsWhole i = (is_name i.department ≡ true) × ((is_key_id i.key_id ≡ true) × ((is_subject_line i.key ≡ true)
    × ((are_principals i.principals ≡ true) × ((is_end i.after ≡ true) × ((is_end i.before ≡ true)
    × IsAfter i.department i.key_id i.key i.principals i.after i.before 3 [] i)))))

whole_lines : IsReading 0 issue_in IsWhole issue_lines
unfolding issue_in
whole_lines =
    line_then 0 _ _ _ (λ i. i.department) _ _ _
    (text_field (codes "issue ") is_name refl refl (name_lacks 10 refl)) (codes "a") refl
    (λ department _. line_then 1 _ _ _ (λ i. i.key_id) _ _ _
    (text_field (codes "keyid ") is_key_id refl refl key_id_line) (codes "a/a") refl
    (λ key_id _. line_then 2 _ _ _ (λ i. i.key) _ _ _ (subject_field (codes "key ") refl refl) some_subject refl
    (λ key _. line_then 3 _ _ _ (λ i. i.principals) _ _ _
    (list_field (codes "principals") are_principals refl refl
    principals_lack) (codes "a" ∷ []) refl (λ principals _. line_then 4 _ _ _ (λ i. i.after) _ _ _
    (number_field is_end (codes "after ") refl refl end_small) 0 refl
    (λ after _. line_then 5 _ _ _ (λ i. i.before) _ _ _
    (number_field is_end (codes "before ") refl refl end_small) 0 refl
    (λ before _. options_read department key_id key principals after before 3 6 [] refl)
    (λ x i p. ap (λ (i : Issue). i.before) p.4.1)) (λ x i p. ap (λ (i : Issue). i.after) p.1.4.1))
    (λ x i p. ap (λ (i : Issue). i.principals) p.1.1.4.1)) (λ x i p. ap (λ (i : Issue). i.key) p.1.1.1.4.1))
    (λ x i p. ap (λ (i : Issue). i.key_id) p.1.1.1.1.4.1))
    (λ x i p. ap (λ (i : Issue). i.department) p.1.1.1.1.1.4.1)

-- a text is read as an issue exactly when it is its text, and a fault is at the first line that fits no issue
pub issue_reads : IsReading 0 issue_in (λ i. is_issue i ≡ true) issue_lines
issue_reads = same_values whole_lines to from
  where
    to : (i : Issue) → IsWhole i → is_issue i ≡ true
    to i is =
        let end = is.1.1.1.1.1.1 in
        let options : are_options i.options ≡ true =
        subst (λ (o : List Pair). are_options o ≡ true) (sym end.1)
        (and_from _ _ (le-leb _ _ end.2) (new_are_options end.0 end.3)) in
        and_from _ _ is.0 (and_from _ _ is.1.0
        (and_from _ _ is.1.1.0 (and_from _ _ is.1.1.1.0 (and_from _ _ is.1.1.1.1.0
        (and_from _ _ is.1.1.1.1.1.0 (and_from _ _ options end.4.0))))))

    from : (i : Issue) → is_issue i ≡ true → IsWhole i
    from i is =
        and_then _ _ (and_then _ _ (and_then _ _ (and_then _ _ (and_then _ _ (and_then _ _ (λ rest.
        let both = and_parts _ _ rest in
        let options = and_parts _ _ both.0 in
        (i.options, refl, leb-true _ _ options.0, options_are_new i.options options.1, (both.1, refl)))))))) is

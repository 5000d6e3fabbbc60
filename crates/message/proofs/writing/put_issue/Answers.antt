use Rattle.message.proofs.Words.{List, Pair, ap, codes, decimal, line, lines_text, list_line, map}
use Rattle.message.proofs.Words.{option_line, refl, ℕ, ◌++◌, ◌∙◌}
use Rattle.lines.specs.SubjectLines.{subject_line_text}
use Rattle.std.proofs.lemmas.Result.{on_ok_weaker}
use Rattle.message.proofs.PutLines.{none_put, then_line, then_lines}
use Rattle.message.proofs.writing.put_issue.Goals as goal

pub returns : goal.returns
returns c =
    let i = c.args.issue.now in
    let none = none_put c.args.out.now.items in
    let put : List Pair → List ℕ = λ os. c.put_number-2.new.out.items ++ lines_text (map option_line os) in
    let of = ap (λ (t : List ℕ). codes "issue " ++ t) c.as_slice.ensures in
    let department = then_line none (line (codes "issue") i.department) of c.in_ok-put_line.ensures in
    let named = ap (λ (t : List ℕ). codes "keyid " ++ t) c.as_slice-2.ensures in
    let key_id = then_line department (line (codes "keyid") i.key_id) named c.in_ok-put_line-2.ensures in
    let key = then_line key_id (line (codes "key") (subject_line_text i.key)) refl c.in_ok-put_subject.ensures in
    let principals =
    then_line key _ (ap (list_line (codes "principals")) c.as_slice-3.ensures) c.in_ok-put_list.ensures in
    let after = then_line principals (line (codes "after") (decimal i.after)) refl c.in_ok-put_number.ensures in
    let before = then_line after (line (codes "before") (decimal i.before)) refl c.in_ok-put_number-2.ensures in
    let options = then_lines before (map option_line i.options)
    (c.in_ok-put_options.ensures ∙ ap put c.as_slice-4.ensures) in
    let same_extensions = ap (list_line (codes "extensions")) c.as_slice-5.ensures in
    on_ok_weaker c.put_list-2.result (λ put. (then_line options _ same_extensions put).is) c.put_list-2.ensures

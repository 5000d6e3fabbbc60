use Rattle.message.proofs.Words.{List, ap, codes, kind_text, line, list_line, refl, ℕ, ◌++◌}
use Rattle.std.proofs.lemmas.Result.{on_ok_weaker}
use Rattle.message.specs.Ends.{ends_of}
use Rattle.message.specs.Texts.{end_lines}
use Rattle.message.proofs.PutLines.{none_put, then_line, then_lines}
use Rattle.message.proofs.writing.put_department.Goals as goal

pub returns : goal.returns
returns c =
    let d = c.args.department.now in
    let none = none_put c.args.out.now.items in
    let same = ap (λ (t : List ℕ). codes "department " ++ t) c.as_slice.ensures in
    let name = then_line none (line (codes "department") d.name) same c.in_ok-put_line.ensures in
    let kind = then_line name (line (codes "kind") (kind_text d.kind)) refl c.in_ok-put_kind.ensures in
    let administrators =
    then_line kind _ (ap (list_line (codes "admins")) c.as_slice-2.ensures) c.in_ok-put_list.ensures in
    let rules =
    then_line administrators _ (ap (list_line (codes "principals")) c.as_slice-3.ensures) c.in_ok-put_list-2.ensures in
    let options =
    then_line rules _ (ap (list_line (codes "options")) c.as_slice-4.ensures) c.in_ok-put_list-3.ensures in
    on_ok_weaker c.put_ends.result (λ put. (then_lines options (end_lines (ends_of d)) put).is) c.put_ends.ensures

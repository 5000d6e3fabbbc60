use Rattle.message.proofs.Words.{List, Pair, ap, codes, decimal, line, lines_text, list_line, map, refl, ℕ, ◌++◌, ◌∙◌}
use Rattle.std.proofs.lemmas.Result.{on_ok_weaker}
use Rattle.message.specs.Texts.{demand_line, key_types_lines}
use Rattle.message.proofs.PutLines.{in_order, none_put, then_line, then_lines}
use Rattle.message.proofs.writing.put_ends.Goals as goal

pub returns : goal.returns
returns c =
    let d = c.args.department.now in
    let none = none_put c.args.out.now.items in
    let put : List Pair → List ℕ = λ ps. c.args.out.now.items ++ lines_text (map demand_line ps) in
    let demands = then_lines none (map demand_line d.demands)
    (c.in_ok-put_demands.ensures ∙ ap put c.as_slice.ensures) in
    let extensions =
    then_line demands _ (ap (list_line (codes "extensions")) c.as_slice-2.ensures) c.in_ok-put_list.ensures in
    let typed : List (List ℕ) → List ℕ = λ ts. c.put_list.new.out.items ++ lines_text (key_types_lines ts) in
    let key_types = then_lines extensions (key_types_lines d.key_types)
    (c.in_ok-put_key_types.ensures ∙ ap typed c.as_slice-3.ensures) in
    let life = then_line key_types (line (codes "maxlife") (decimal d.longest_life)) refl c.in_ok-put_number.ensures in
    let same_namespaces = ap (list_line (codes "namespaces")) c.as_slice-4.ensures in
    on_ok_weaker c.put_list-2.result (λ put. (then_line life _ same_namespaces put).is
    ∙ ap (λ (ls : List (List ℕ)). c.args.out.now.items ++ lines_text ls)
    (in_order (map demand_line d.demands) (list_line (codes "extensions") d.extensions) (key_types_lines d.key_types)
    (line (codes "maxlife") (decimal d.longest_life)) (list_line (codes "namespaces") d.namespaces)))
    c.put_list-2.ensures

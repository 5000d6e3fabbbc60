use Rattle.std.specs.List.{join_with_byte}
use Rattle.store.proofs.Words.{List, ap, sym, ℕ, ◌++◌, ◌∙◌, ◌∷◌, ◌≡◌}
use Rattle.store.proofs.DepartmentRows.{following, following_more, following_none, joined_first}
use Rattle.store.proofs.rows.department_rows.joined_by.Goals as goal

pub loop-text-init : goal.loop-text-init
loop-text-init c =
    let first = c.in-Some.first.now in
    let rest = c.in-Some.rest.now in
    let parts : c.args.texts.now ≡ first ∷ rest = c.in-Some.ensures.cases.0 in
    let begun : c.in_ok-bytes.bytes.items ≡ first = c.in_ok-bytes.ensures.items ∙ c.as_slice.ensures in
    ap (λ (x : List ℕ). x ++ following c.args.byte rest) begun ∙ joined_first c.args.byte first rest ∙ ap (join_with_byte c.args.byte) (sym parts)

pub loop-text-preserved : goal.loop-text-preserved
loop-text-preserved c =
    following_more c.args.byte c.in-Some.rest.now c.loop-text.text-index c.text-item.result c.loop-text.bytes.items
    c.push.new.self.items c.extend_from_slice.new.self.items c.loop-text-test.true c.text-item.is
    c.in_ok-push.ensures.items (rw c.as_slice-in-loop-text.ensures at c.in_ok-extend_from_slice.ensures.items)
    ∙ c.loop-text.invariant

pub returns : goal.returns
returns c =
    c.from_vec.ensures
    ∙ following_none c.args.byte c.in-Some.rest.now c.loop-text.text-index c.loop-text.bytes.items c.loop-text-test.false
    ∙ c.loop-text.invariant

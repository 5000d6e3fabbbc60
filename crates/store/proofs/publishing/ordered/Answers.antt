use Rattle.store.proofs.Words.{ap, are_ordered, arith, refl, sym, true, ◌∙◌, ◌≡◌}
use Rattle.store.proofs.Parts.{ordered_rise, rise_ordered}
use Rattle.store.proofs.publishing.ordered.Goals as goal

pub returns-then-are_ordered : goal.returns-then-are_ordered
returns-then-are_ordered c =
    let is : are_ordered 0 c.args.cas.items ≡ true =
    sym (c.are_ordered.ensures ∙ ap (are_ordered 0) c.as_slice.ensures.value) ∙ c.if-are_ordered.true in
    (refl, ordered_rise c.args.cas.items is)

pub returns-else-are_ordered : goal.returns-else-are_ordered
returns-else-are_ordered c up =
    let is : are_ordered 0 c.args.cas.items ≡ true = rise_ordered 0 c.args.cas.items (λ d there. omega arith) up in
    let is_not =
    sym (c.are_ordered.ensures ∙ ap (are_ordered 0) c.as_slice.ensures.value) ∙ c.if-are_ordered.false in
    cc

use Rattle.krl.proofs.Words.{flat_map, string_text, sym, ◌∙◌}
use Rattle.krl.proofs.Forgetting.{ids_must_be_kept, kept_is_enough, parts_must_be_kept}
use Rattle.krl.proofs.OneList.{shown_ids}
use Rattle.krl.proofs.ListedLaws.{shown}
use Rattle.krl.proofs.published.forgets_nothing.Goals as goal

pub returns-then-keeps_sections : goal.returns-then-keeps_sections
returns-then-keeps_sections c o n is there =
    let old =
    shown c.old.inside.head c.old.inside.sections.now c.old.inside.key_ids.now _ c.old.invariant
    c.old.view_is o is in
    let new =
    shown c.new.inside.head c.new.inside.sections.now c.new.inside.key_ids.now _ c.new.invariant
    c.new.view_is n there in
    let sections = c.keeps_sections.ensures (flat_map string_text o.ids)
    (flat_map string_text n.ids) o.cas n.cas old.whole.whole
    new.whole.whole old.whole.text new.whole.text in
    let ids = c.keeps_ids.ensures o.ids n.ids
    (shown_ids c.old.inside.head c.old.inside.sections.now c.old.inside.key_ids.now _ c.old.invariant
    c.old.view_is o is)
    (shown_ids c.new.inside.head c.new.inside.sections.now c.new.inside.key_ids.now _ c.new.invariant
    c.new.view_is n there) in (
      λ kept. kept_is_enough o n is.lawful there.lawful (sections.0 c.if-keeps_sections.true) (ids.0 kept),
      λ f. ids.1 (ids_must_be_kept o n is.lawful there.lawful f),
    )

pub returns-else-keeps_sections : goal.returns-else-keeps_sections
returns-else-keeps_sections c o n is there =
    let old =
    shown c.old.inside.head c.old.inside.sections.now c.old.inside.key_ids.now _ c.old.invariant
    c.old.view_is o is in
    let new =
    shown c.new.inside.head c.new.inside.sections.now c.new.inside.key_ids.now _ c.new.invariant
    c.new.view_is n there in
    let sections = c.keeps_sections.ensures (flat_map string_text o.ids)
    (flat_map string_text n.ids) o.cas n.cas old.whole.whole
    new.whole.whole old.whole.text new.whole.text in (
      λ kept. absurd (let bad = sym c.if-keeps_sections.false ∙ kept in cc),
      λ f. sections.1 (parts_must_be_kept o n is.lawful there.lawful f),
    )

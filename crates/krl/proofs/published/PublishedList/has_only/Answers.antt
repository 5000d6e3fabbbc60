use Rattle.krl.proofs.Words.{flat_map, string_text}
use Rattle.krl.proofs.ListedLaws.{shown}
use Rattle.krl.proofs.published.PublishedList.has_only.Goals as goal

pub returns : goal.returns
returns c d is =
    let sections =
    shown c.self.inside.head c.self.inside.sections.now c.self.inside.key_ids.now _ c.self.invariant
    c.self.view_is d is in
    c.are_among.ensures (flat_map string_text d.ids) d.cas sections.whole.whole sections.whole.text

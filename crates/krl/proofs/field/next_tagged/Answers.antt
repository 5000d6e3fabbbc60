use Rattle.krl.proofs.Words.{[], ◌∷◌}
use Rattle.text.proofs.ByteLemmas.{IsBytes_left}
use Rattle.krl.proofs.field.next_tagged.Goals as goal

pub next_string-requires : goal.next_string-requires
next_string-requires c =
    IsBytes_left c.args.cursor.now (c.in-Some.kind ∷ []) c.u8.new.self c.requires c.in-Some.ensures.found

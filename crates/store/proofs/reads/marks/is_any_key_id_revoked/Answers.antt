use Rattle.office.proofs.Agreeing.{any_says}
use Rattle.store.proofs.Gathered.{none_asks}
use Rattle.store.proofs.Showing.{asks_weaker, asks_nothing}
use Rattle.store.proofs.reads.marks.is_any_key_id_revoked.Goals as goal

pub returns-in-Rollover : goal.returns-in-Rollover
returns-in-Rollover g c =
    asks_weaker c.has_revoked_key_ids.ensures (λ _. tt) (λ s kept is lawful. any_says is s c.args.message.now)

pub returns-in_default : goal.returns-in_default
returns-in_default g c =
    asks_nothing (λ s kept lawful. none_asks s c.args.message.now c.in_default.not-Rollover)

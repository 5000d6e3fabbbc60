use Rattle.std.proofs.Common.{sym, ◌∙◌}
use Rattle.store.proofs.Gathered.{all_say, none_says, one_says}
use Rattle.store.proofs.Showing.{asks_weaker, asks_nothing}
use Rattle.store.proofs.reads.marks.is_revoked.Goals as goal

pub returns-in-Some-default : goal.returns-in-Some-default
returns-in-Some-default g c =
    asks_weaker c.are_revoked.ensures (λ _. tt) (λ s kept is lawful says history.
    one_says is s c.args.message.now c.in-Some-default.serial
    (sym c.concerned-concern.ensures.serial ∙ c.in-Some-default.is-0) (says history))

pub returns-in-None-Some : goal.returns-in-None-Some
returns-in-None-Some g c =
    asks_weaker c.are_revoked-in-None-Some.ensures (λ _. tt) (λ s kept is lawful says history.
    all_say is s c.args.message.now c.in-None-Some.range c.requires
    (sym c.concerned-concern.ensures.serial ∙ c.in-None-Some.is-0)
    (sym c.concerned-concern.ensures.range ∙ c.in-None-Some.is-1) (says history))

pub returns-in-None-None : goal.returns-in-None-None
returns-in-None-None g c =
    asks_nothing (λ s kept lawful history.
    none_says s c.args.message.now (sym c.concerned-concern.ensures.serial ∙ c.in-None-None.is-0)
    (sym c.concerned-concern.ensures.range ∙ c.in-None-None.is-1))

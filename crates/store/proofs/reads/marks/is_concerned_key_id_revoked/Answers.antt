use Rattle.store.proofs.Words.{ap, option_copied, sym, ◌∙◌}
use Rattle.office.specs.State.{is_key_id_revoked}
use Rattle.office.proofs.Agreeing.{certificate_says, key_id_says, no_key_id_says}
use Rattle.store.proofs.Showing.{asks_weaker, asks_nothing}
use Rattle.store.proofs.reads.marks.is_concerned_key_id_revoked.Goals as goal

pub returns-in-Some-default : goal.returns-in-Some-default
returns-in-Some-default g c =
    asks_weaker c.is_key_id_revoked.ensures (λ _. tt) (λ s kept is lawful says same.
    certificate_says is s c.args.message.now c.in-Some-default.certificate.now
    (sym same ∙ ap option_copied c.in-Some-default.is-0) (says ∙ ap (is_key_id_revoked s) c.as_slice.ensures))

pub returns-in-None-Some : goal.returns-in-None-Some
returns-in-None-Some g c =
    asks_weaker c.is_key_id_revoked-in-None-Some.ensures (λ _. tt) (λ s kept is lawful says same.
    key_id_says is s c.args.message.now c.in-None-Some.key_id.now
    (sym c.concerned.ensures.key_id ∙ ap option_copied c.in-None-Some.is-1) says)

pub returns-in-None-None : goal.returns-in-None-None
returns-in-None-None g c =
    asks_nothing (λ s kept lawful same.
    no_key_id_says s c.args.message.now (sym same ∙ ap option_copied c.in-None-None.is-0)
    (sym c.concerned.ensures.key_id ∙ ap option_copied c.in-None-None.is-1))

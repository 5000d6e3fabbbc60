use Rattle.std.proofs.Common.{◌∙◌, sym}
use Rattle.office.specs.History.{state}
use Rattle.waiting.proofs.Asked.{shown_waits, unshown}
use Rattle.waiting.proofs.asking.waits_still.Goals as goal

pub returns-in-Some-clause-row : goal.returns-in-Some-clause-row
returns-in-Some-clause-row g c h o l m are =
    c.lets_wait.ensures ∙ shown_waits o l c.args.revocations.now c.args.serial c.in-Some.issued are
    (sym (sym c.in-Some.is ∙ c.in_ok-issued.ensures.row h o l m))

pub returns-in-None-clause-row : goal.returns-in-None-clause-row
returns-in-None-clause-row g c h o l m are =
    unshown (state o l) c.args.serial (sym (sym c.in-None.is ∙ c.in_ok-issued.ensures.row h o l m))

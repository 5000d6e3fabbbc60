use Rattle.std.proofs.Common.{◌∙◌, ap}
use Rattle.office.specs.History.{state}
use Rattle.office.proofs.Registers.{preserves_both}
use Rattle.waiting.specs.Knowing.{still_waiting}
use Rattle.waiting.proofs.Asked.{again, all_known}
use Rattle.waiting.proofs.asking.asked.Goals as goal

pub returns-clause-row : goal.returns-clause-row
returns-clause-row g c h o l m known kept =
    let second = c.learned.ensures.preserves.honest h in
    let first = c.still_waiting.ensures.preserves.honest second in
    let r = c.in_ok-revocations.revocations in
    let all = c.in_ok-known.known in
    let are = c.in_ok-revocations.ensures.row first o l m kept in
    let meant = c.revocations_by.ensures.preserves.same first o l m in
    let rows = c.in_ok-rows.ensures.row second o l meant are in
    let rest = c.in_ok-known.ensures.row h o l (c.still_waiting.ensures.preserves.same second o l meant) known.within
    (rows ∙ ap (still_waiting (state o l)) c.as_slice.ensures.value
    ∙ again o l r c.args.known.seen c.args.known.rows.items are known) in
    let found = all_known r (state o l) all.seen all.rows.items are rest.0 rest.1 in (found.0, found.1, are)

pub returns-in_err-rows-clause-preserves : goal.returns-in_err-rows-clause-preserves
returns-in_err-rows-clause-preserves g c =
    preserves_both g.met.R.Registry.through c.revocations_by.ensures.preserves c.still_waiting.ensures.preserves

pub returns-clause-preserves : goal.returns-clause-preserves
returns-clause-preserves g c =
    preserves_both g.met.R.Registry.through (preserves_both g.met.R.Registry.through c.revocations_by.ensures.preserves
    c.still_waiting.ensures.preserves) c.learned.ensures.preserves

pub returns-in_err-known-clause-preserves : goal.returns-in_err-known-clause-preserves
returns-in_err-known-clause-preserves g c =
    preserves_both g.met.R.Registry.through (preserves_both g.met.R.Registry.through c.revocations_by.ensures.preserves
    c.still_waiting.ensures.preserves) c.learned.ensures.preserves

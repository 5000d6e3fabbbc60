use Rattle.store.proofs.Words.{DiskFailed, Err, HasFailed, means_offices, office_contents, refl, state}
use Rattle.store.proofs.OfficeRows.{looks_weaker, not_missed}
use Rattle.store.proofs.Telling.{disk_failed}
use Rattle.store.proofs.register.Store.open.Goals as goal

pub returns-in-Err-clause-only : goal.returns-in-Err-clause-only
returns-in-Err-clause-only g c clean still o l tells =
    let old = state g.S.Store c.args.conn in
    let new = state g.S.Store c.look.new.conn in
    let con = office_contents o l in
    not_missed con.offices (DiskFailed old new) c.in-Err.fault refl
    (looks_weaker con.offices (HasFailed old new) (DiskFailed old new) (Err c.in-Err.fault)
    (disk_failed old new c.requires.unlimited)
    (c.in-Err.ensures.looks clean con.offices (means_offices old.now con (tells.rows still).now)))

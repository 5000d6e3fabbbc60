use Rattle.std.proofs.Common.{inr, subst, sym}
use Rattle.guard.specs.Retiring.{IsRowFrom}
use Rattle.station_jobs.specs.declared.station_fault.StationFault.{StationFault}
use Rattle.station_jobs.specs.Reported.{IsPassedOn}
use Rattle.station_jobs.proofs.Reported.{own_row, reported_fault}
use Rattle.station_jobs.proofs.Rows.{one_cut}
use Rattle.station_jobs.proofs.bodies.print_from.Goals as goal

pub returns-in-Err-printed-clause-cut : goal.returns-in-Err-printed-clause-cut
returns-in-Err-printed-clause-cut g c h s kept =
    one_cut s c.args.from (g.W.Write.contents c.args.out.now) (g.W.Write.contents c.print_row-printed.new.out)
    c.in-Ok-Some.row (subst (IsRowFrom s c.args.from) c.in-Ok-Some.field-0-is (c.in-Ok-Some.ensures.row h s kept))
    c.in-Err-printed.ensures.err

pub returns-in-Err-printed-clause-reported : goal.returns-in-Err-printed-clause-reported
returns-in-Err-printed-clause-reported g c =
    inr (c.in-Ok-Some.ensures.reported, own_row _ c.in-Err-printed.fault c.in-Err-printed.ensures.only)

pub returns-in-Err-clause-reported : goal.returns-in-Err-clause-reported
returns-in-Err-clause-reported g c =
    let before = g.G.Register.reported c.args.register.now in
    let after = g.G.Register.reported c.row_from.new.self in
    subst (λ (e : StationFault). IsPassedOn before after e) (sym c.from.ensures)
    (reported_fault before after c.in-Err.fault c.in-Err.ensures.reported)

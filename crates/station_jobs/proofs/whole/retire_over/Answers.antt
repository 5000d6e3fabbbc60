use Rattle.std.proofs.Common.{Err, ap, subst, sym, ℕ}
use Rattle.station_jobs.specs.declared.station_fault.StationFault.{StationFault}
use Rattle.station_jobs.specs.Leaving.{Leaves, OfRetiring}
use Rattle.station_jobs.specs.Faults.{of_retiring}
use Rattle.station_jobs.specs.Reported.{IsPassedOn}
use Rattle.station_jobs.specs.Whole.{RetiresTo}
use Rattle.station_jobs.proofs.Retirings.{retires_not, retires_well}
use Rattle.station_jobs.proofs.Reported.{reported_of_retiring, reported_then}
use Rattle.station_jobs.proofs.whole.retire_over.Goals as goal

pub returns-in-Ok-retire-clause-retires : goal.returns-in-Ok-retire-clause-retires
returns-in-Ok-retire-clause-retires g c h s kept low =
    let before = c.retire.ensures.honest h in
    let mid = c.scope.ensures.same before s kept in
    let is = c.in-Ok-retire.ensures in
    retires_well g.G.Register c.args.last c.args.register.now c.retire.new.register s c.in-Ok.scope.first
    (ap (λ scope. scope.first) (c.in-Ok.ensures.row before s kept)) (is.retired h s mid low) (is.durable h s mid low)

pub returns-in-Err-retire-clause-retires : goal.returns-in-Err-retire-clause-retires
returns-in-Err-retire-clause-retires g c h s kept low =
    let before = c.retire.ensures.honest h in
    let mid = c.scope.ensures.same before s kept in
    let is = c.in-Err-retire.ensures in
    let old = c.args.register.now in
    let new = c.retire.new.register in
    subst (λ (e : StationFault). RetiresTo c.args.last s
    (λ t. Leaves {A = ℕ} g.G.Register (OfRetiring c.args.last) old new s t (Err e)) (Err e))
    (sym c.from.ensures)
    (retires_not g.G.Register c.args.last old new s c.in-Err-retire.fault (is.retired h s mid low)
    (λ left. is.crash h s mid (c.scope.ensures.crash before s kept left) low) (is.cause h s mid))

pub returns-in-Err-retire-clause-reported : goal.returns-in-Err-retire-clause-reported
returns-in-Err-retire-clause-reported g c =
    let before = g.G.Register.reported c.args.register.now in
    let between = g.G.Register.reported c.scope.new.self in
    let after = g.G.Register.reported c.retire.new.register in
    subst (λ (e : StationFault). IsPassedOn before after e) (sym c.from.ensures)
    (reported_then before between after (of_retiring c.in-Err-retire.fault) c.in-Ok.ensures.reported
    (reported_of_retiring between after c.in-Err-retire.fault c.in-Err-retire.ensures.reported))

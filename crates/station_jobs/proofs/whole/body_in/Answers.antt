use Rattle.std.proofs.Common.{◌≡◌, Result}
use Rattle.guard.specs.Machine.{State}
use Rattle.station_jobs.specs.declared.station_fault.StationFault.{StationFault}
use Rattle.station_jobs.specs.Bodies.{PrintsBody}
use Rattle.station_jobs.specs.Leaving.{OfNone}
use Rattle.station_jobs.proofs.Filed.{ran_in}
use Rattle.station_jobs.proofs.whole.body_in.Goals as goal

pub returns-in-Ok : goal.returns-in-Ok
returns-in-Ok g c =
    let held = g.W.Write.contents c.args.out.now in
    let holds = g.W.Write.contents c.print_body-done.new.out in
    let is = c.print_body-done.ensures in
    let Did : State → (State → Result (Unit {0}) StationFault → Type 0) → Result (Unit {0}) StationFault → Type 0 =
    λ s Left r. PrintsBody s c.args.serial held holds r × Left s r in
    ran_in g.G.Register g.D.GuardFile c.requires OfNone Did (λ s Left Left' r leads is. (is.0, leads s r is.1))
    (holds ≡ held) c.args.db.now c.open.new.self c.close.new.self c.args.path.now c.in-Ok.guard
    c.print_body-done.new.register c.print_body-done.result c.close.result c.closed.result c.in-Ok.ensures
    (is.honest, λ h s kept. (is.prints h s kept, is.stays h s kept)) is.reported c.close.ensures c.closed.ensures

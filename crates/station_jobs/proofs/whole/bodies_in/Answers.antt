use Rattle.std.proofs.Common.{◌≡◌, Result}
use Rattle.guard.specs.Machine.{State}
use Rattle.station_jobs.specs.declared.station_fault.StationFault.{StationFault}
use Rattle.station_jobs.specs.Bodies.{PrintsRows}
use Rattle.station_jobs.specs.Leaving.{OfNone}
use Rattle.station_jobs.proofs.Filed.{ran_in, rows_so}
use Rattle.station_jobs.proofs.whole.bodies_in.Goals as goal

pub returns-in-Ok : goal.returns-in-Ok
returns-in-Ok g c =
    let held = g.W.Write.contents c.args.out.now in
    let holds = g.W.Write.contents c.print_bodies-done.new.out in
    let is = c.print_bodies-done.ensures in
    let Did : State → (State → Result (Unit {0}) StationFault → Type 0) → Result (Unit {0}) StationFault → Type 0 =
    λ s Left r. PrintsRows s Left held holds r in
    ran_in g.G.Register g.D.GuardFile c.requires OfNone Did
    (λ s Left Left' r leads is. rows_so s Left Left' held holds r leads is)
    (holds ≡ held) c.args.db.now c.open.new.self c.close.new.self c.args.path.now c.in-Ok.guard
    c.print_bodies-done.new.register c.print_bodies-done.result c.close.result c.closed.result c.in-Ok.ensures (
      is.honest,
      λ h s kept.
          record { lists = is.lists h s kept; stays = is.stays h s kept; only = is.only; cause = is.cause h s kept },
    ) is.reported c.close.ensures c.closed.ensures

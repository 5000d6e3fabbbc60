use Rattle.std.proofs.Common.{arith, refl, subst, ◌∙◌}
use Rattle.station_jobs.specs.Bodies.{PrintsFrom}
use Rattle.station_jobs.proofs.Leavings.{stays_same, stays_then}
use Rattle.station_jobs.proofs.Reported.{reported_then}
use Rattle.station_jobs.proofs.Rows.{counted_more, cut_after, none_listed, one_more, starts}
use Rattle.station_jobs.proofs.bodies.print_bodies.Goals as goal

pub loop-row-init : goal.loop-row-init
loop-row-init g c = record {
  honest = λ h. h;
  stays = λ h s kept. stays_same g.G.Register c.args.register.now s kept;
  listed = λ h s kept. starts s (g.W.Write.contents c.args.out.now);
  counted = λ h s kept are. (omega arith, omega arith);
  reported = refl;
  before = λ h. g.met.G.Register.unasked c.args.register.now;
}

pub loop-row-preserved : goal.loop-row-preserved
loop-row-preserved g c =
    let inv = c.loop-row.invariant in
    record {
      honest = λ h. inv.honest (c.print_from.ensures.honest h);
      stays = λ h s kept.
          let first = inv.stays (c.print_from.ensures.honest h) s kept in
          stays_then g.G.Register c.args.register.now c.loop-row.register c.print_from.new.register s first
          (c.print_from.ensures.stays h s first.kept);
      listed = λ h s kept.
          let before = c.print_from.ensures.honest h in
          one_more s (g.W.Write.contents c.args.out.now) (g.W.Write.contents c.loop-row.out)
          (g.W.Write.contents c.print_from.new.out) c.loop-row.from c.in-Ok-Some.next (inv.listed before s kept)
          (subst (PrintsFrom s c.loop-row.from (g.W.Write.contents c.loop-row.out) (g.W.Write.contents c.print_from.new.out))
          c.in-Ok-Some.field-0-is (c.in-Ok-Some.ensures.prints h s (inv.stays before s kept).kept));
      counted = λ h s kept are.
          let before = c.print_from.ensures.honest h in
          counted_more s c.loop-row._row c.loop-row.from c.in-Ok-Some.next (g.W.Write.contents c.loop-row.out)
          (g.W.Write.contents c.print_from.new.out) are (inv.counted before s kept are)
          (subst (PrintsFrom s c.loop-row.from (g.W.Write.contents c.loop-row.out) (g.W.Write.contents c.print_from.new.out))
          c.in-Ok-Some.field-0-is (c.in-Ok-Some.ensures.prints h s (inv.stays before s kept).kept));
      reported = c.in-Ok-Some.ensures.reported ∙ inv.reported;
      before = λ h.
          g.met.G.Register.through c.args.register.now c.loop-row.register c.print_from.new.register
          (inv.before (c.print_from.ensures.honest h)) (c.print_from.ensures.before h);
    }

pub returns-in-Err-clause-lists : goal.returns-in-Err-clause-lists
returns-in-Err-clause-lists g c h s kept =
    let inv = c.loop-row.invariant in
    let before = c.print_from.ensures.honest h in
    cut_after s (g.W.Write.contents c.args.out.now) (g.W.Write.contents c.loop-row.out)
    (g.W.Write.contents c.print_from.new.out) c.loop-row.from (inv.listed before s kept)
    (c.in-Err.ensures.cut h s (inv.stays before s kept).kept)

pub returns-clause-lists : goal.returns-clause-lists
returns-clause-lists g c h s kept =
    let mid = g.W.Write.contents c.loop-row.out in
    cut_after s (g.W.Write.contents c.args.out.now) mid mid c.loop-row.from (c.loop-row.invariant.listed h s kept)
    (none_listed s c.loop-row.from mid)

pub returns-in-Err-clause-reported : goal.returns-in-Err-clause-reported
returns-in-Err-clause-reported g c =
    reported_then (g.G.Register.reported c.args.register.now) (g.G.Register.reported c.loop-row.register)
    (g.G.Register.reported c.print_from.new.register) c.in-Err.fault c.loop-row.invariant.reported
    c.in-Err.ensures.reported

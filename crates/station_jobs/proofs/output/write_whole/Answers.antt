use Rattle.std.proofs.Common.{◌≤◌, ◌-◌, ℕ, List, length, take, arith, subst, sym}
use Rattle.std.specs.Io.KnownBytes.{Appends}
use Rattle.std.proofs.lemmas.List.{length-take, length-drop}
use Rattle.std.proofs.KnownBytes.{Appends-trans}
use Rattle.wire.proofs.StreamLaws.{piece_more}
use Rattle.station_jobs.proofs.output.write_whole.Goals as goal

pub loop-at-preserved : goal.loop-at-preserved
loop-at-preserved g c =
    let bytes = c.args.bytes.now in
    let at = c.loop-at.at in
    let n = c.in-Some.count in
    let most = c.in-Some.ensures.bound in
    let room : n ≤ length bytes - at = omega (arith, length-take {A = ℕ}, length-drop {A = ℕ}, most) in
    let P : List ℕ → Type 0 = Appends (g.W.Write.contents c.args.out.now) (g.W.Write.contents c.write_some.new.out) in
    record {
      sent = subst P (sym (piece_more at n (length bytes - at) bytes c.loop-at.invariant.within room))
          (Appends-trans _ (g.W.Write.contents c.loop-at.out) _ (take at bytes) _ c.loop-at.invariant.sent
          c.in-Some.ensures.bytes);
      within = omega arith;
    }

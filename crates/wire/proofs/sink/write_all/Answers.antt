use Rattle.std.proofs.Common.{◌≤◌, ◌-◌, ℕ, List, length, take, arith, subst, sym, ◌∙◌}
use Rattle.std.specs.Io.KnownBytes.{Appends}
use Rattle.std.proofs.lemmas.List.{length-take, length-drop}
use Rattle.std.proofs.KnownBytes.{Appends-trans}
use Rattle.wire.proofs.StreamLaws.{piece_more}
use Rattle.wire.proofs.sink.write_all.Goals as goal

pub loop-at-preserved : goal.loop-at-preserved
loop-at-preserved g c =
    let bytes = c.args.bytes.now in
    let at = c.loop-at.at in
    let n = c.in_ok-at.field-0 in
    let most = c.in_ok-at.ensures.bound in
    let room : n ≤ length bytes - at = omega (arith, length-take {A = ℕ}, length-drop {A = ℕ}, most) in
    let P : List ℕ → Type 0 = Appends (g.W.Sink.taken c.args.sink.now) (g.W.Sink.taken c.write.new.self) in
    let before = c.loop-at.invariant.sent in
    let now = c.in_ok-at.ensures.bytes in
    record {
      sent = subst P (sym (piece_more at n (length bytes - at) bytes c.loop-at.invariant.within room))
          (Appends-trans _ (g.W.Sink.taken c.loop-at.sink) _ (take at bytes) _ before now);
      within = omega arith;
      failed = ◌∙◌ {b = g.W.Sink.failed c.loop-at.sink} c.in_ok-at.ensures.failed c.loop-at.invariant.failed;
      room = omega (arith, c.in_ok-at.ensures.room);
    }

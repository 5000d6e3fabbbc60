use Rattle.std.proofs.Common.{arith, ◌∙◌}
use Rattle.wire.proofs.StreamLaws.{given_more}
use Rattle.wire.proofs.source.read_full.Goals as goal

pub loop-at-preserved : goal.loop-at-preserved
loop-at-preserved g c =
    let source = g.S.Source in
    let before = c.loop-at.invariant in
    let now = c.in_ok-n.ensures in
    record {
      given = given_more (source.remaining c.args.source.now) (source.remaining c.loop-at.source)
          (source.remaining c.read_behind.new.source) c.loop-at.buf c.read_behind.new.buf c.loop-at.at c.in_ok-n.n
          now.kept before.given now.bytes;
      within = omega (arith, now.bound);
      failed = ◌∙◌ {b = source.failed c.loop-at.source} now.failed before.failed;
    }

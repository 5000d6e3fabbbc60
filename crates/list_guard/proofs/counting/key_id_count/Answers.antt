use Rattle.std.proofs.Common.{ap, arith, length, length-append, refl, ◌∙◌}
use Rattle.krl.specs.Format.{IsString}
use Rattle.wire.specs.Texts.{string_text}
use Rattle.list_guard.proofs.Counted.{all_counted, none_some, none_stands, one_more, sum_ones}
use Rattle.list_guard.proofs.counting.key_id_count.Goals as goal

pub returns-in_default-clause-count : goal.returns-in_default-clause-count
returns-in_default-clause-count c ids all is =
    absurd (none_stands string_text IsString (λ _. 1) c.args.bytes.now c.loop-cursor.cursor c.loop-cursor.count
    (λ end. absurd (cc (c.loop-cursor-test.ensures.1 end)))
    (λ x after fits e. none_some x _ refl (c.in_default.ensures.only x after fits e).0)
    c.loop-cursor.invariant.0 ids all is)

pub loop-cursor-preserved : goal.loop-cursor-preserved
loop-cursor-preserved c = (
  one_more string_text IsString (λ _. 1) c.args.bytes.now c.loop-cursor.cursor c.string.new.self c.loop-cursor.count 1
      (λ end. absurd (cc (c.loop-cursor-test.ensures.1 end)))
      (λ x after fits e. (refl, (c.string.ensures.only x after fits e).1)) c.loop-cursor.invariant.0,
  let longer = ap length c.in-Some.ensures.found in
      let before = c.loop-cursor.invariant.1 in
      let both = length-append (string_text c.in-Some.field-0.now) c.string.new.self in
      omega (arith, longer, before, both),
)

pub returns-clause-count : goal.returns-clause-count
returns-clause-count c ids all is =
    all_counted string_text IsString (λ _. 1) c.args.bytes.now c.loop-cursor.cursor c.loop-cursor.count
    (λ x r e. absurd cc) (c.loop-cursor-test.ensures.0 (let end = c.loop-cursor-test.false in cc))
    c.loop-cursor.invariant.0 ids all is
    ∙ sum_ones ids

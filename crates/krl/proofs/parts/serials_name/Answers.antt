use Rattle.krl.proofs.Words.{IsU64, arith, u64_text, ◌==◌}
use Rattle.krl.proofs.Items.{so_far_more, stops_within}
use Rattle.krl.proofs.Texts.{u64_texts}
use Rattle.krl.proofs.parts.serials_name.Goals as goal

pub returns-in_default-clause-none : goal.returns-in_default-clause-none
returns-in_default-clause-none c =
    stops_within u64_texts (λ n. c.args.serial == n) c.args.bytes.now c.loop-cursor.cursor _ c.loop-cursor.invariant
    (λ end. absurd (cc (c.loop-cursor-test.ensures.1 end)))
    (λ x r is e. c.in_default.not-Some x (c.u64.ensures.only x r is e).0)

pub loop-cursor-preserved : goal.loop-cursor-preserved
loop-cursor-preserved c =
    so_far_more u64_text IsU64 (λ n. c.args.serial == n) c.args.bytes.now _ _ c.loop-cursor.named c.in-Some.next
    c.loop-cursor.invariant (omega arith) c.in-Some.ensures.found

use Rattle.std.proofs.Common.{◌∙◌}
use Rattle.guard.proofs.PolicyLines.{text_ended_at, text_put_from}
use Rattle.guard.proofs.policy_reader.text_of.Goals as goal

pub loop-line-preserved : goal.loop-line-preserved
loop-line-preserved c =
    text_put_from c.args.size c.loop-line.text.items c.put_piece.new.text.items _ c.loop-line._line c.loop-line.rest.now _ c.loop-line-test.true
    c.in-len1-up.len_at_least c.in_ok-put_piece.ensures c.loop-line.invariant

pub returns-in_default-clause-text : goal.returns-in_default-clause-text
returns-in_default-clause-text c =
    c.from_vec.ensures ∙ text_ended_at c.loop-line.text.items _ _ c.loop-line.rest.now c.in_default.len_below c.loop-line.invariant

use Rattle.std.proofs.Common.{refl}
use Rattle.message.proofs.Chains.{both_give, failed}
use Rattle.message.proofs.IssueParts.{in_parts}
use Rattle.message.proofs.issue.issue_in.Goals as goal

pub returns-in-Ok : goal.returns-in-Ok
returns-in-Ok c =
    let names = both_give _ _ _ _ _ c.both-names.ensures.is c.text_after.ensures c.text_after-2.ensures in
    let holder = both_give _ _ _ _ _ c.both-holder.ensures.is c.subject_line_after.ensures c.list_in.ensures in
    let validity = both_give _ _ _ _ _ c.both-validity.ensures.is c.end_after.ensures c.end_after-2.ensures in
    let subject = both_give _ _ _ _ _ c.both-subject.ensures.is names holder in
    let terms = both_give _ _ _ _ _ c.both-terms.ensures.is validity c.extras_in.ensures in
    rw (in_parts, both_give _ _ _ _ _ c.in-Ok.ensures.is subject terms, c.issue_of.ensures) refl

pub returns-in-Err : goal.returns-in-Err
returns-in-Err c =
    let names = both_give _ _ _ _ _ c.both-names.ensures.is c.text_after.ensures c.text_after-2.ensures in
    let holder = both_give _ _ _ _ _ c.both-holder.ensures.is c.subject_line_after.ensures c.list_in.ensures in
    let validity = both_give _ _ _ _ _ c.both-validity.ensures.is c.end_after.ensures c.end_after-2.ensures in
    let subject = both_give _ _ _ _ _ c.both-subject.ensures.is names holder in
    let terms = both_give _ _ _ _ _ c.both-terms.ensures.is validity c.extras_in.ensures in
    rw in_parts (failed _ _ _ _ (both_give _ _ _ _ _ c.in-Err.ensures.is subject terms))

use Rattle.std.proofs.Common.{Ok, refl}
use Rattle.message.proofs.Chains.{both_give}
use Rattle.message.proofs.department.body_after.Goals as goal

pub returns : goal.returns
returns c =
    let last = both_give _ _ _ _ _ c.both-last.ensures.is c.list_in.ensures
    (rw c.has_bare_name-bare.ensures at c.ends_in.ensures) in
    let people = c.args.people in
    both_give _ (Ok people) _ (Ok people) _ c.both.ensures.is refl last

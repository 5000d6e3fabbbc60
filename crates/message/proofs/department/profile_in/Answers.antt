use Rattle.std.proofs.Common.{Ok, refl}
use Rattle.message.proofs.Chains.{both_give}
use Rattle.message.proofs.department.profile_in.Goals as goal

pub returns : goal.returns
returns c =
    rw c.in_ok-kind.ensures
    (both_give _ (Ok c.in_ok-kind.kind) _ (Ok c.in_ok-kind.kind) _ c.both.ensures.is refl c.body_in.ensures)

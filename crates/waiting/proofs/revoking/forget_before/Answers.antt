use Rattle.waiting.proofs.Kept.{kept_over}
use Rattle.waiting.proofs.revoking.forget_before.Goals as goal

pub returns-else-may_revoke-clause-after : goal.returns-else-may_revoke-clause-after
returns-else-may_revoke-clause-after c o l a same is =
    kept_over o l a c.args.bytes.now c.args.revoked.now (c.may_revoke.ensures c.if-may_revoke.false) same is

use Rattle.std.proofs.Common.{rules}
use Rattle.guard.proofs.LittleEndian.{cleared}
use Rattle.guard.proofs.small_order.without_sign.Goals as goal

pub returns : goal.returns
returns c = cleared 31 c.args.encoding (search rules) (search rules)

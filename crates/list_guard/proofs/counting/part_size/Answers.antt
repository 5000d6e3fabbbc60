use Rattle.std.proofs.Common.{◌∙◌}
use Rattle.list_guard.proofs.Counted.{serials_size}
use Rattle.list_guard.proofs.counting.part_size.Goals as goal

pub returns-in-32-clause-size : goal.returns-in-32-clause-size
returns-in-32-clause-size c p is kind same = serials_size p c.args.bytes.now is (kind ∙ c.in-32.is) same

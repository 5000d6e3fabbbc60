use Rattle.krl.proofs.Words.{leb}
use Rattle.std.proofs.Common.{rules}
use Rattle.std.proofs.lemmas.List.Sorted.{IsPartitionPoint-from_clause}
use Rattle.krl.proofs.Covering.{are_parted}
use Rattle.krl.proofs.runs.count_begun.Goals as goal

pub returns-clause-point : goal.returns-clause-point
returns-clause-point c =
    IsPartitionPoint-from_clause (λ r. leb r.lo c.args.serial) _ _ c.partition_point.ensures.partitioned
    (are_parted 0 c.args.serial c.args.runs.now c.requires) (λ a r q k. search rules)

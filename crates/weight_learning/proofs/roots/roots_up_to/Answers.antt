use Rattle.std.proofs.Common.{nat_le, rules}
use Rattle.std.proofs.lemmas.List.Sorted.{IsPartitionPoint-from_clause, IsPartitionedBy-leb}
use Rattle.weight_learning.specs.declared.roots.TheConstants.{ROOTS}
use Rattle.weight_learning.proofs.RootTable.{roots_rise}
use Rattle.weight_learning.proofs.roots.roots_up_to.Goals as goal

pub returns-clause-point : goal.returns-clause-point
returns-clause-point c =
    IsPartitionPoint-from_clause (λ root. nat_le root c.args.x) ROOTS c.partition_point.result c.partition_point.ensures.partitioned
    (IsPartitionedBy-leb (λ y. y) ROOTS c.args.x roots_rise) (λ a r f k. search rules)

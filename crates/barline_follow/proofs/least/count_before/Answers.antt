use Rattle.std.proofs.Common.{rules, ◌∷◌, []}
use Rattle.std.proofs.lemmas.List.Sorted.{IsPartitionPoint-from_clause}
use Rattle.performance_edit.proofs.Places.{before-front, is_before}
use Rattle.barline_follow.proofs.least.count_before.Goals as goal

pub returns-clause-front : goal.returns-clause-front
returns-clause-front g c =
    (IsPartitionPoint-from_clause (is_before (λ x. g.T.Valued.value x ∷ g.T.Valued.tick x ∷ []) c.args.item.now) c.args.list.now c.partition_point.result c.partition_point.ensures.partitioned
    (before-front (λ x. g.T.Valued.value x ∷ g.T.Valued.tick x ∷ []) c.args.item.now c.args.list.now c.requires) (λ a r f k. search rules)).0

pub returns-clause-back : goal.returns-clause-back
returns-clause-back g c =
    (IsPartitionPoint-from_clause (is_before (λ x. g.T.Valued.value x ∷ g.T.Valued.tick x ∷ []) c.args.item.now) c.args.list.now c.partition_point.result c.partition_point.ensures.partitioned
    (before-front (λ x. g.T.Valued.value x ∷ g.T.Valued.tick x ∷ []) c.args.item.now c.args.list.now c.requires) (λ a r f k. search rules)).1

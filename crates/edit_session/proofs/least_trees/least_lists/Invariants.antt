use Rattle.std.specs.Prelude.{map, take}
use Rattle.edit_session.specs.LeastTrees.{AreListed}
use Rattle.edit_session.proofs.ListedTrees.{rest_of}
use Rattle.edit_session.proofs.least_trees.least_lists.Given as goal

-- the counts are 0 and then the path
abbrev pub invariant-bars : goal.invariant-bars
invariant-bars l = AreListed (take l.number l.tables) 0 (take l.number (rest_of l.counts)) (map (λ list. list.now) l.lists.items)

-- The least trees of a bar that is quiet as a whole.
use Rattle.bar_trees.specs.declared.trees.BarTrees.{BarTrees}
use Rattle.least_rows.specs.declared.quiet_trees.QuietTrees.{QuietTrees}

-- the trees of a bar that is quiet as a whole, whose lists stand in a room
abbrev pub bar_trees : QuietTrees → BarTrees → BarTrees
bar_trees q room = record { bests = q.bests; lists = record { rules = room.lists.rules; ends = q.ends } }

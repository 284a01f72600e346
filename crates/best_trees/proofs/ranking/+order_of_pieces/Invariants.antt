use Rattle.std.proofs.Common.{length}
use Rattle.best_trees.proofs.ranking.+order_of_pieces.Given as goal

abbrev pub decreases-order_of_pieces : goal.decreases-order_of_pieces
decreases-order_of_pieces l = length l.top.now

use Rattle.std.proofs.Common.{length}
use Rattle.best_trees.proofs.pins.Pins.+room.Given as goal

abbrev pub decreases-have_room : goal.decreases-have_room
decreases-have_room l = length l.pieces.now

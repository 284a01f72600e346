use Rattle.std.proofs.Common.{drop}
use Rattle.rhythm_base.specs.Shape.{cuts, shape_of_parts}
use Rattle.best_trees.specs.Pins.{GrowsOutlines, HasOutline}
use Rattle.best_trees.proofs.pins.Pins.+keeping.Given as goal

abbrev pub decreases-keep_all : goal.decreases-keep_all
decreases-keep_all l = cuts (shape_of_parts l.shapes.now)

abbrev pub invariant-shapes : goal.invariant-shapes
invariant-shapes l = record {
  grown : GrowsOutlines l.fn.self l.self;
  outline : HasOutline l.self l.number (shape_of_parts (drop l.place l.shapes));
}

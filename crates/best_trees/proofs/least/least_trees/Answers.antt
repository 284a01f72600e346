use Rattle.std.specs.Prelude.{option_map}
use Rattle.best_trees.proofs.FirstTrees.{least-trees}
use Rattle.best_trees.proofs.least.least_trees.Goals as goal

pub returns : goal.returns
returns c =
    least-trees c.args.grammar.now c.args.input.now (option_map (λ s. s.now) c.pin.result) c.in_ok-grid.grid (record { bests = record { rows = c.bests_of.result }; lists = c.in_ok-lists.lists }) c.pin.ensures c.in_ok-grid.ensures c.bests_of.ensures
    c.in_ok-lists.ensures

use Rattle.std.proofs.Common.{◌<◌, ◌^◌, refl}
use Rattle.std.specs.Prelude.{MatchOption, Option, Some, None}
use Rattle.bar_view.specs.declared.leaf.Leaf.{Leaf}
use Rattle.row_laws.specs.Leaves.{HasLeaf, IsCrowded}
use Rattle.best_trees.specs.Nodes.{HasNoLeaf, IsLeafHere}
use Rattle.best_trees.proofs.LeafFits.{crowded-none}
use Rattle.best_trees.proofs.search.leaf_here.Goals as goal

pub returns-then-allows_none-clause-leaf : goal.returns-then-allows_none-clause-leaf
returns-then-allows_none-clause-leaf c = go c.leaf.result c.leaf.ensures
  where
    go : (o : Option Leaf)
        → MatchOption o (IsCrowded c.args.bar.now.input.now c.args.asked.place c.args.asked.width)
        (λ l. HasLeaf c.args.bar.now.grammar.now c.args.bar.now.input.now c.args.asked.place c.args.asked.width l.own l.next l.sounds l.charges × (l.charges < 2 ^ 60))
        → MatchOption o (HasNoLeaf c.args.bar.now c.args.asked)
        (IsLeafHere c.args.bar.now c.args.asked)
    go None many = crowded-none c.args.bar.now c.args.asked c.requires.search.ready.units many
    go (Some l) here = record { allowed = c.if-allows_none.ensures.0 refl; leaf = here.0 }

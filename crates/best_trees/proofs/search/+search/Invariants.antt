use Rattle.std.proofs.Common.{ℕ, ◌+◌, ◌*◌, ◌≤◌, drop, length}
use Rattle.best_trees.specs.Memos.{KeepsFound}
use Rattle.best_trees.specs.Nodes.{AreBestBelow, AreFound}
use Rattle.best_trees.specs.Suited.{AreSuiting}
use Rattle.best_trees.proofs.search.+search.Given as goal

abbrev pub decreases-beside : goal.decreases-beside
decreases-beside l = 64 * l.below + length l.pieces.now

abbrev pub decreases-by_cut : goal.decreases-by_cut
decreases-by_cut l = 64 * l.asked.width + 59

abbrev pub decreases-by_rule : goal.decreases-by_rule
decreases-by_rule l = 64 * l.asked.width + 60

abbrev pub decreases-by_each : goal.decreases-by_each
decreases-by_each l = 64 * l.asked.width + 61

abbrev pub decreases-by_rules : goal.decreases-by_rules
decreases-by_rules l = 64 * l.asked.width + 62

abbrev pub decreases-search : goal.decreases-search
decreases-search l = 64 * l.asked.width + 63

abbrev pub invariant-by_each-rules : goal.invariant-by_each-rules
invariant-by_each-rules l = record {
  more : KeepsFound l.initial.memo.found.items l.memo.found.items;
  found : AreFound l.bar l.memo.found.items;
  best : (i : ℕ) × (i ≤ length l.bar.grammar.now.rules) × AreSuiting l.bar.grammar.now.rules (l.asked.width, l.asked.symbol) (drop l.number-index l.numbers) i (length l.bar.grammar.now.rules)
      × AreBestBelow l.bar l.asked i l.best;
}

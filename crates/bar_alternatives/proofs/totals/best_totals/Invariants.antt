use Rattle.std.proofs.Common.{◌≡◌}
use Rattle.best_trees.specs.Firsts.{AreKeptKeys}
use Rattle.bar_alternatives.specs.Totals.{totals_below}
use Rattle.bar_alternatives.proofs.totals.best_totals.Given as goal

abbrev pub invariant-pairs : goal.invariant-pairs
invariant-pairs l = record {
  kept : AreKeptKeys l.count l.best;
  so_far : l.best ≡ totals_below l.count l.before l.after l.grid l.pair;
}

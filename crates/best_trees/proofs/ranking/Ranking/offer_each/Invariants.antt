use Rattle.std.proofs.Common.{◌≡◌, ◌++◌, drop, map}
use Rattle.rhythm_base.specs.Ranked.{plus}
use Rattle.best_trees.specs.Firsts.{AreKeptKeys, all_offered}
use Rattle.best_trees.proofs.ranking.Ranking.offer_each.Given as goal

abbrev pub invariant-others : goal.invariant-others
invariant-others l = record {
  kept : AreKeptKeys l.count l.self;
  so_far : all_offered l.count (map (plus (l.cost, l.top ++ l.rules)) (drop l.other-index l.other-items)) l.self ≡ all_offered l.count (map (plus (l.cost, l.top ++ l.rules)) l.other-items) l.initial.self;
}

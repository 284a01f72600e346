use Rattle.std.proofs.Common.{◌≡◌, drop, map}
use Rattle.rhythm_base.specs.Ranked.{plus}
use Rattle.best_trees.specs.Firsts.{AreKeptKeys, sums_offered}
use Rattle.best_trees.proofs.ranking.Ranking.offer_sums.Given as goal

abbrev pub invariant-firsts : goal.invariant-firsts
invariant-firsts l = record {
  kept : AreKeptKeys l.count l.self;
  so_far : sums_offered l.count (map (plus (l.fn.cost, l.top)) (drop l.first-index l.first-items)) l.right l.self ≡ sums_offered l.count (map (plus (l.fn.cost, l.top)) l.first-items) l.right l.initial.self;
}

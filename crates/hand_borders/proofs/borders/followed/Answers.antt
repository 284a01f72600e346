use Rattle.std.proofs.Common.{rules, arith, ◌≡◌, ◌∷◌, ◌++◌, []}
use Rattle.hand_borders.specs.Ways.{AreWays}
use Rattle.hand_borders.proofs.Followed.{all_but_last, follow_more}
use Rattle.hand_borders.proofs.borders.followed.Goals as goal

pub groups-preserved : goal.groups-preserved
groups-preserved c =
    let popped : c.groups.ways.items ≡ c.pop.new.self.items ++ c.in-Some.to ∷ [] = search rules in
    let ways = all_but_last AreWays c.pop.new.self.items c.groups.ways.items c.in-Some.to popped c.groups.invariant.ways in
    record {
      way = follow_more c.groups.ways.items c.pop.new.self.items c.in-Some.to c.groups.borders.items c.push.new.self.items _ c.groups.border
          popped c.in_ok-push.ensures.items c.groups.invariant.way;
      ways = ways.0;
      border = ways.1.1 c.groups.border 0 (let long = ways.1.0 in omega (arith, long, c.groups.invariant.border));
    }

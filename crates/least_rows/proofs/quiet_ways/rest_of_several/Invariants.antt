use Rattle.least_rows.specs.Ways.{way_in}
use Rattle.least_rows.specs.Steps.{AreQuietWaysBelow, way_to_none}
use Rattle.least_rows.proofs.quiet_ways.rest_of_several.Given as goal

abbrev pub invariant-counts : goal.invariant-counts
invariant-counts l = AreQuietWaysBelow l.search l.quiet l.seat l.ways l.count l.best

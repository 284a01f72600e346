use Rattle.std.proofs.Common.{◌≡◌, refl, subst, arith}
use Rattle.std.specs.Prelude.{None}
use Rattle.grammar_plan.specs.Plans.{pair_of}
use Rattle.least_rows.specs.Searches.{ground_in}
use Rattle.least_rows.specs.Ways.{AreWaysBelow, way_in}
use Rattle.least_rows.specs.Steps.{way_to_none}
use Rattle.least_rows.proofs.Steps.{below-all, below-none}
use Rattle.least_rows.proofs.quiet_ways.rest_of_several.Goals as goal

pub counts-init : goal.counts-init
counts-init c = λ place s at calm. below-none (ground_in c.args.search.now) place (pair_of s) (way_in c.args.ways.now) (way_to_none None) (λ b lb. refl)

pub returns : goal.returns
returns c = λ place s at calm.
    let d = ground_in c.args.search.now in
    let five : c.counts.count ≡ 5 = omega arith in
    below-all d place (pair_of s) (way_in c.args.ways.now) _
    (subst (λ n. AreWaysBelow d place (pair_of s) (way_in c.args.ways.now) n (way_to_none c.counts.best)) five (c.counts.invariant place s at calm))

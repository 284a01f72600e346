use Rattle.rhythm_base.proofs.KeyEnds.{clear_below, lowest_set}
use Rattle.rhythm_base.proofs.keys.lowest_bit.Goals as goal

pub returns-clause-below : goal.returns-clause-below
returns-clause-below c k below = clear_below c.args.bits k c.ranges.bits.fits below

pub returns-clause-first : goal.returns-clause-first
returns-clause-first c within = lowest_set c.args.bits c.ranges.bits.fits within

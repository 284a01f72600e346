use Rattle.rhythm_base.proofs.KeyEnds.{clear_above, highest_set}
use Rattle.rhythm_base.proofs.keys.end_of_bits.Goals as goal

pub returns-clause-above : goal.returns-clause-above
returns-clause-above c k above = clear_above c.args.bits k c.ranges.bits.fits above

pub returns-clause-last : goal.returns-clause-last
returns-clause-last c some = highest_set c.args.bits c.ranges.bits.fits some

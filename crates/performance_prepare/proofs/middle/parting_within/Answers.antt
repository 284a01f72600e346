use Rattle.performance_prepare.proofs.SidesCounted.{side_other}
use Rattle.performance_prepare.proofs.middle.parting_within.Goals as goal

pub returns : goal.returns
returns c = λ keys border below all. c.parting.ensures keys border below
    (side_other border keys c.args.below.count c.args.below.sum c.args.all.count c.args.all.sum all below)

use Rattle.performance_prepare.proofs.NearKeys.{costs_whole}
use Rattle.performance_prepare.proofs.groups.row.Goals as goal

pub returns : goal.returns
returns c = costs_whole c.args.middle c.args.struck.now c.args.held.now c.loop-key.costs c.loop-key.key-index c.loop-key-test.false
    c.loop-key.invariant.long c.loop-key.invariant.costs

use Rattle.performance_load.proofs.TakesLoaded.{loads_as_taken}
use Rattle.performance_load.proofs.loading.load.Goals as goal

pub returns : goal.returns
returns c = loads_as_taken c.args.smf.now c.in_ok-played.played c.load_take.result c.in_ok-played.ensures.takes c.load_take.ensures

use Rattle.durations.proofs.FractionLemmas.{frac_of_lowest}
use Rattle.kern_reader.proofs.place.frac.Goals as goal

pub returns : goal.returns
returns c = frac_of_lowest c.args.parts c.args.whole _ _ c.requires c.lowest-length.ensures

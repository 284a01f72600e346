use Rattle.std.proofs.Common.{ap₂, ◌∙◌, arith}
use Rattle.kern_reader.specs.Columns.{lcm}
use Rattle.kern_reader.proofs.GridLemmas.{lcm_of_lowest, new_grid}
use Rattle.kern_reader.proofs.grid.grid_with_value.Goals as goal

pub returns : goal.returns
returns c =
    let whole = c.count-whole.ensures in
    let finer = lcm_of_lowest c.count-whole.result c.value_grid.result _ _ whole.some c.lowest-length.ensures ∙ ap₂ lcm whole.is c.value_grid.ensures.grid in
    new_grid c.args.grid c.args.value c.new.result _ (omega (arith, whole.is, whole.some)) c.requires finer c.new.ensures.within c.new.ensures.is

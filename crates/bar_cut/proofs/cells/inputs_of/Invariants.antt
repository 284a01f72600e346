use Rattle.std.proofs.Common.{◌≡◌, take}
use Rattle.bar_cut.proofs.cells.inputs_of.Given as goal

abbrev pub invariant-sections : goal.invariant-sections
invariant-sections l = l.inputs.items ≡ take l.section-index l.sections

use Rattle.std.proofs.Common.{◌≡◌, ◌++◌, drop, map, take}
use Rattle.kern_reader.specs.Columns.{at_bar}
use Rattle.kern_reader.proofs.spine.begin_bar.Given as goal

abbrev pub invariant-spines : goal.invariant-spines
invariant-spines l = l.spines ≡ map at_bar (take l.spine-index l.initial.spines) ++ drop l.spine-index l.initial.spines

use Rattle.std.proofs.Common.{◌≡◌, ◌++◌, map, take, drop}
use Rattle.kern_writer.specs.Columns.{tokens_after}
use Rattle.kern_writer.proofs.data.pass.Given as goal

abbrev pub invariant-columns : goal.invariant-columns
invariant-columns l = l.columns ≡ map (tokens_after l.place) (take l.column-index l.initial.columns) ++ drop l.column-index l.initial.columns

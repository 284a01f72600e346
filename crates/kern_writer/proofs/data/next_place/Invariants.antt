use Rattle.std.proofs.Common.{◌≡◌, None, map, take, fold}
use Rattle.kern_writer.specs.Columns.{earlier_place, first_place}
use Rattle.kern_writer.proofs.data.next_place.Given as goal

abbrev pub invariant-columns : goal.invariant-columns
invariant-columns l = l.next ≡ fold earlier_place None (map first_place (take l.column-index l.columns))

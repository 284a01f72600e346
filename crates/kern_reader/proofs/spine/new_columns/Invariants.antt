use Rattle.std.proofs.Common.{◌≡◌, [], replicate}
use Rattle.kern_reader.proofs.spine.new_columns.Given as goal

abbrev pub invariant-columns : goal.invariant-columns
invariant-columns l = l.columns.items ≡ replicate l._number []

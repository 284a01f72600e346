use Rattle.std.proofs.Common.{◌≡◌, None, replicate}
use Rattle.kern_reader.proofs.spine.new_spines.Given as goal

abbrev pub invariant-spines : goal.invariant-spines
invariant-spines l = l.spines.items ≡ replicate l._number (record { place = 0; tied = None; graces = 0 })

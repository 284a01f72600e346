use Rattle.std.proofs.Common.{◌≡◌}
use Rattle.kern_reader.specs.Columns.{rescaled, spine_after}
use Rattle.kern_reader.proofs.ZipLemmas.{zipped}
use Rattle.kern_reader.proofs.spine.pass.Given as goal

abbrev pub invariant-spines : goal.invariant-spines
invariant-spines l = l.spines ≡ zipped (λ t s. spine_after l.grid (rescaled l.times s) t) l.tokens l.initial.spines l.number

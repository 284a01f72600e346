use Rattle.std.proofs.Common.{◌<◌, ℕ, get_or}
use Rattle.rhythm_base.specs.declared.inner.Inner.{Inner}
use Rattle.rhythm_base.specs.BarInput.{IsInner}
use Rattle.table_tests.proofs.bars.are_within.Given as goal

abbrev pub invariant-loop-chord : goal.invariant-loop-chord
invariant-loop-chord l = (k : ℕ) (d : Inner) → k < l.chord-index → IsInner l.length (get_or l.chords k d)

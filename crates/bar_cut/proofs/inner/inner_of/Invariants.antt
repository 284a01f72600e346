use Rattle.std.proofs.Common.{◌≡◌, take}
use Rattle.bar_cut.specs.Cuts.{moved_all}
use Rattle.bar_cut.proofs.inner.inner_of.Given as goal

abbrev pub invariant-loop-chord : goal.invariant-loop-chord
invariant-loop-chord l = l.inner.items ≡ moved_all l.start l.length (take l.chord-index l.own)

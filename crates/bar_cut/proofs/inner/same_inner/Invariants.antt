use Rattle.std.proofs.Common.{◌≡◌, take}
use Rattle.bar_cut.specs.Cuts.{moved_all}
use Rattle.bar_cut.proofs.inner.same_inner.Given as goal

abbrev pub invariant-chords : goal.invariant-chords
invariant-chords l = take l.number l.inner ≡ moved_all l.start l.length (take l.number l.own)

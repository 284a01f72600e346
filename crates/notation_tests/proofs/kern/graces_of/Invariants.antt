use Rattle.std.proofs.Common.{◌≡◌, length}
use Rattle.std.specs.Prelude.{All}
use Rattle.derivation.specs.WellSounded.{AreKeys}
use Rattle.notation_tests.proofs.kern.graces_of.Given as goal

abbrev pub invariant-chords : goal.invariant-chords
invariant-chords l = record {
  keys : All AreKeys l.graces.items;
  count : length l.graces.items ≡ l.chord-index;
}

use Rattle.std.proofs.Common.{◌≡◌, ◌≤◌, ◌*◌, take}
use Rattle.bar_view.specs.Displaced.{displacements}
use Rattle.bar_view.proofs.displaced.displaced.Given as goal

abbrev pub invariant-chords : goal.invariant-chords
invariant-chords l = record {
  so_far : l.total ≡ displacements l.input l.unit (take l.chord-index l.chords);
  small : l.total ≤ 245760 * l.chord-index;
}

use Rattle.std.proofs.Common.{◌≡◌, ◌≤◌, ◌*◌, length, take}
use Rattle.std.specs.Prelude.{sum}
use Rattle.notation.specs.Clefs.{chord_keys}
use Rattle.notation.proofs.clef.chords_sum.Given as goal

abbrev pub invariant-sounds : goal.invariant-sounds
invariant-sounds l = record {
  count : l.count ≡ length (chord_keys (take l.sound-index l.sounds));
  total : l.total ≡ sum (chord_keys (take l.sound-index l.sounds));
  few : l.count ≤ 128 * l.sound-index;
  low : l.total ≤ 16384 * l.sound-index;
}

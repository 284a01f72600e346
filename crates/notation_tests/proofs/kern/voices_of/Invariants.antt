use Rattle.std.proofs.Common.{◌≡◌, length}
use Rattle.std.specs.Prelude.{All}
use Rattle.derivation.specs.WellSounded.{AreWellSounded}
use Rattle.notation_tests.proofs.kern.voices_of.Given as goal

abbrev pub invariant-voices : goal.invariant-voices
invariant-voices l = record {
  voices : All (AreWellSounded l.resolution l.bars) l.voices.items;
  count : length l.voices.items ≡ l.voice-index;
}

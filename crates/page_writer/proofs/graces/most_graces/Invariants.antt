use Rattle.std.proofs.Common.{◌≡◌, ℕ, ◌<◌, get_or, length, take}
use Rattle.page_writer.specs.Graces as definitions
use Rattle.page_writer.proofs.graces.most_graces.Given as goal

abbrev pub invariant-voices : goal.invariant-voices
invariant-voices l = record {
  count : length l.most.items ≡ l.bars;
  each : (k : ℕ) → k < l.bars → get_or l.most.items k 0 ≡ definitions.most_graces (take l.voice-index l.voices) k;
}

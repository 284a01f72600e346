use Rattle.std.proofs.Common.{length, take}
use Rattle.notation.specs.Bars.{AreVoiceGroups}
use Rattle.notation.proofs.VoiceLemmas.{AreAhead}
use Rattle.notation.proofs.voice.voice_groups.Given as goal

abbrev pub invariant-bars : goal.invariant-bars
invariant-bars l = record {
  ahead : AreAhead l.resolution (length l.bars) l.number l.sounds l.later;
  groups : AreVoiceGroups l.resolution 0 (take l.number l.bars) l.sounds l.all.items;
}

use Rattle.std.specs.Prelude.{◌≤◌, All, take}
use Rattle.rhythm_base.specs.Lists.{Each}
use Rattle.edit_session.specs.VoiceTables.{IsGrown}
use Rattle.edit_session.proofs.kept_voices.reserve_all.Given as goal

abbrev pub invariant-voices : goal.invariant-voices
invariant-voices l = record {
  grown : Each IsGrown l.fn.voices l.voices;
  room : All (λ voice. l.bars ≤ voice.room) (take l.number l.voices);
}

use Rattle.std.specs.Prelude.{◌≡◌, ◌+◌, ◌*◌, ◌≤◌, ◌++◌, All, length, reverse}
use Rattle.std.specs.List.{flat_map}
use Rattle.edit_session.specs.VoiceTables.{HasTables, VoiceTables}
use Rattle.edit_session.proofs.kept_voices.voices_of.Given as goal

abbrev pub invariant-voices : goal.invariant-voices
invariant-voices g l = record {
  all : flat_map (λ (voice : VoiceTables). voice.tables) l.kept.items ++ reverse l.tables.items ≡ l.fn.tables.items;
  count : length l.kept.items ≡ l._number;
  bars : All (HasTables l.bars) l.kept.items;
  rises : l.initial.products ≤ l.products;
  rest : l._number * l.bars + length l.tables.items ≡ l.voices * l.bars;
}

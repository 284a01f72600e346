-- What a session keeps: the table of each cell, and a path over the tables of each voice.
use Rattle.rhythm_base.specs.declared.limits.TheConstants.{MOST_WORKERS}
use Rattle.rhythm_base.specs.declared.limits.TheConstants.{MOST_CELLS, MOST_NOTES}
use Rattle.std.specs.Prelude.{ℕ, ◌≤◌, List, length}
use Rattle.chain_bars.specs.Laws.{AreTables}
use Rattle.edit_session.specs.Opening.{cells_of}
use Rattle.edit_session.specs.VoiceTables.{HasPath, VoiceTables}
use Rattle.grammar_plan.specs.Plans.{IsPlan}
use Rattle.grammar_plan.specs.declared.plan.Plan.{Plan}
use Rattle.rhythm_base.specs.declared.chord.Chord.{Chord}
use Rattle.rhythm_base.specs.BarTables.{BarTable}
use Rattle.rhythm_base.specs.Grammar.{Grammar}
use Rattle.rhythm_base.specs.Leaves.{soundings}
use Rattle.rhythm_base.specs.Lists.{Each}
use Rattle.rhythm_base.specs.Performance.{IsWellFormed, Performance}
use Rattle.rhythm_base.specs.Readable.{IsReadable}
use Rattle.rhythm_base.specs.Voices.{AreChordsOf, HasStarts, voice_bars}

-- the tables of the voice of a channel: that of each bar's cell
pub record AreTablesOfVoice (g : Grammar) (p : Performance) (channel : ℕ) (tables : List BarTable) : Type 0 where
  pub chords : List Chord
  pub are_chords : AreChordsOf g p channel chords
  pub each : AreTables g (soundings chords) (voice_bars g p channel) tables

-- the tables of each voice, by rising channel
abbrev pub AreTablesOfVoices : Grammar → Performance → List VoiceTables → Type 0
AreTablesOfVoices g p voices = Each (λ channel voice. AreTablesOfVoice g p channel voice.tables) p.channels voices

-- what is kept of the voice of a channel: its tables, over which some path leads, and memory for so many bars
pub record IsKeptVoice (g : Grammar) (p : Performance) (room channel : ℕ) (voice : VoiceTables) : Type 0 where
  pub tables : AreTablesOfVoice g p channel voice.tables
  pub path : HasPath voice
  pub memory : room ≤ voice.room

-- what a session on a performance keeps: the plan of its grammar, the voices, by rising channel, and for how many bars it has memory
pub record IsSession (g : Grammar) (plan : Plan) (p : Performance) (workers : ℕ) (voices : List VoiceTables) (room : ℕ) : Type 0 where
  pub readable : IsReadable g
  pub planned : IsPlan g plan
  pub formed : IsWellFormed p
  pub few_notes : length p.notes ≤ MOST_NOTES
  pub few_cells : cells_of p ≤ MOST_CELLS
  pub starts : HasStarts g p.bars
  pub some_worker : 1 ≤ workers
  pub few_workers : workers ≤ MOST_WORKERS
  pub each : Each (IsKeptVoice g p room) p.channels voices
  pub memory : length p.bars ≤ room

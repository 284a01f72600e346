-- The inputs of the cells of a performance, and their tables.
use Rattle.std.specs.Prelude.{◌≡◌, ℕ, List, map}
use Rattle.std.specs.List.{flat_map}
use Rattle.bar_pool.specs.Pool.{AreTablesOf}
use Rattle.rhythm_base.specs.declared.chord.Chord.{Chord}
use Rattle.rhythm_base.specs.BarInput.{BarInput}
use Rattle.rhythm_base.specs.BarTables.{BarTable}
use Rattle.rhythm_base.specs.Cells.{input}
use Rattle.rhythm_base.specs.Grammar.{Grammar}
use Rattle.rhythm_base.specs.Leaves.{soundings}
use Rattle.rhythm_base.specs.Lists.{Each}
use Rattle.rhythm_base.specs.Performance.{Performance}
use Rattle.rhythm_base.specs.Voices.{AreChordsOf, voice_bars}

-- the inputs of the cells of a voice, bar after bar
pub record AreInputsOfVoice (g : Grammar) (p : Performance) (channel : ℕ) (inputs : List BarInput) : Type 0 where
  pub chords : List Chord
  pub are_chords : AreChordsOf g p channel chords
  pub are : inputs ≡ map (λ bar. input g bar (soundings chords)) (voice_bars g p channel)

-- the inputs of the cells of these voices, voice after voice
pub record AreInputsOf (g : Grammar) (p : Performance) (channels : List ℕ) (inputs : List BarInput) : Type 0 where
  pub voices : List (List BarInput)
  pub each : Each (AreInputsOfVoice g p) channels voices
  pub are : inputs ≡ flat_map (λ own. own) voices

-- the tables of all cells, voice after voice
pub record AreCellTables (g : Grammar) (p : Performance) (tables : List BarTable) : Type 0 where
  pub inputs : List BarInput
  pub are_inputs : AreInputsOf g p p.channels inputs
  pub are : AreTablesOf g inputs tables

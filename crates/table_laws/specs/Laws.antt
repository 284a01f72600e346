-- The laws, each as one statement over the definitions.
use Rattle.std.specs.Prelude.{◌≡◌, ℕ, ◌⊎◌, Bool, List, All, Option}
use Rattle.least_cost.specs.Costs.{AreCostsOf}
use Rattle.rhythm_base.specs.BarInput.{BarInput}
use Rattle.rhythm_base.specs.BarTables.{BarTable, IsTable}
use Rattle.rhythm_base.specs.Cells.{input}
use Rattle.rhythm_base.specs.Chords.{AreChords}
use Rattle.rhythm_base.specs.DeadBars.{IsDead}
use Rattle.rhythm_base.specs.Forest.{Tree}
use Rattle.rhythm_base.specs.Grammar.{Grammar}
use Rattle.rhythm_base.specs.Least.{HasNone, IsLeast}
use Rattle.rhythm_base.specs.Leaves.{VoiceBar, soundings}
use Rattle.rhythm_base.specs.Performance.{IsWellFormed, Performance}
use Rattle.rhythm_base.specs.Readable.{IsReadable}
use Rattle.rhythm_base.specs.Voices.{AreChordsOf, HasDerivation, HasStarts, IsCostOf, IsDeadVoice, IsLeastOf, voice_bars}
use Rattle.rhythm_base.specs.declared.chord.Chord.{Chord}
use Rattle.rhythm_base.specs.declared.event.Tempo.{Tempo}
use Rattle.rhythm_base.specs.declared.inner.Inner.{Inner}
use Rattle.rhythm_base.specs.declared.note.Note.{Note}
use Rattle.row_laws.specs.Grounds.{IsReady}
use Rattle.tree_laws.specs.Voices.{IsVoice}

-- each cell of a grammar from a file has a table
abbrev pub TablesExist : Type 0
TablesExist =
    (g : Grammar) (k : BarInput) → IsReady g k → (table : BarTable) × IsTable g table × (table.input ≡ k)

-- the costs that are asked for of a cell are one
abbrev pub CostsAreOne : Type 0
CostsAreOne =
    (g : Grammar) (k : BarInput) (asked : List Bool) (costs others : List (List (Option ℕ)))
    → AreCostsOf g k asked costs → AreCostsOf g k asked others → costs ≡ others

-- a voice, each bar of which is a cell of a grammar from a file, has a least derivation, or none fits
abbrev pub DerivationsExist : Type 0
DerivationsExist =
    (g : Grammar) (bars : List VoiceBar) (cs : List Inner) → IsVoice g bars cs
    → All (λ bar. IsReady g (input g bar cs)) bars → ((ts : List Tree) × IsLeast g bars cs ts) ⊎ HasNone g bars cs

-- where none fits, one of its bars is the dead bar
abbrev pub DeadBarsExist : Type 0
DeadBarsExist =
    (g : Grammar) (bars : List VoiceBar) (cs : List Inner) → IsVoice g bars cs
    → All (λ bar. IsReady g (input g bar cs)) bars → HasNone g bars cs → (i : ℕ) × IsDead g bars cs i

-- each list of notes has chords
abbrev pub ChordsExist : Type 0
ChordsExist =
    (tempos : List Tempo) (division window : ℕ) (notes : List Note)
    → (cs : List Chord) × AreChords tempos division window notes cs

-- the bars of a voice of a well-formed performance, with its chords, are cells of a grammar from a file
abbrev pub VoicesAreReady : Type 0
VoicesAreReady =
    (g : Grammar) (p : Performance) (channel : ℕ) (cs : List Chord) → IsReadable g → IsWellFormed p
    → AreChordsOf g p channel cs → All (λ bar. IsReady g (input g bar (soundings cs))) (voice_bars g p channel)

-- With root symbols for all bars of a well-formed performance, a voice has a least derivation, or none fits; all of
-- them have one, or there is a dead voice; and where all have one, the performance has a cost.
pub record VoicesHaveAnswers : Type 0 where
  pub derivations : (g : Grammar) (p : Performance) (channel : ℕ) → IsReadable g → IsWellFormed p → HasStarts g p.bars
      → ((ts : List Tree) × IsLeastOf g p channel ts) ⊎ (HasDerivation g p channel → ⊥)
  pub dead : (g : Grammar) (p : Performance) → IsReadable g → IsWellFormed p → HasStarts g p.bars
      → All (HasDerivation g p) p.channels ⊎ ((channel : ℕ) × (bar : ℕ) × IsDeadVoice g p channel bar)
  pub costs : (g : Grammar) (p : Performance) → IsReadable g → IsWellFormed p → HasStarts g p.bars
      → All (HasDerivation g p) p.channels → (sum : ℕ) × IsCostOf g p sum

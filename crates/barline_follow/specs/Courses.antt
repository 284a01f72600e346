-- What is kept of a list that goes on, and of the bar that lists get in a round.
use Rattle.std.specs.Prelude.{◌≡◌, ℕ, ◌+◌, ◌*◌, ◌≤◌, List, [], ◌∷◌, length, replicate, Some, None}
use Rattle.barline_follow.specs.declared.heads.Heads.{Heads}
use Rattle.chain_bars.specs.Laws.{AreTables, matrices}
use Rattle.chain_bars.specs.Tower.{cost_of}
use Rattle.rhythm_base.specs.declared.chord.Chord.{Chord}
use Rattle.rhythm_base.specs.declared.limits.TheConstants.{LATEST_TICK}
use Rattle.rhythm_base.specs.declared.note.Bar.{Bar}
use Rattle.rhythm_base.specs.BarInput.{BarInput}
use Rattle.rhythm_base.specs.BarTables.{BarTable}
use Rattle.rhythm_base.specs.Cells.{input}
use Rattle.edit_laws.specs.Edits.{with_start}
use Rattle.rhythm_base.specs.Grammar.{Grammar}
use Rattle.rhythm_base.specs.Leaves.{VoiceBar, soundings}
use Rattle.rhythm_base.specs.Lists.{Each}
use Rattle.rhythm_base.specs.Performance.{Performance}
use Rattle.rhythm_base.specs.Ranked.{five, least_key}
use Rattle.rhythm_base.specs.Voices.{HasStarts, voice_bar, voice_bars}
use Rattle.tree_laws.specs.Voices.{Adjacent}
use Rattle.barline_follow.specs.Bars.{with_barlines}
use Rattle.barline_follow.specs.Barring.{Course, barring_end}
use Rattle.barline_follow.specs.Rounds.{no_bars}

-- the bars of a voice over these barlines: without pins they are the same in each voice
abbrev pub bars_of : Grammar → Performance → List ℕ → List VoiceBar
bars_of g p ticks = voice_bars g (with_barlines p ticks) 0

-- The heads of a voice with these chords over these barlines: there is a table for each bar, and they are the costs of the least paths
-- over the tables, by the number of chords that leave the last bar.
pub record AreHeads (g : Grammar) (p : Performance) (ticks : List ℕ) (voice : List Chord) (heads : Heads) : Type 0 where
  pub tables : List BarTable
  pub each : AreTables g (soundings voice) (bars_of g p ticks) tables
  pub are : heads.costs ≡ five (λ to. cost_of (least_key (matrices tables) 0 to))

-- the most that a bar is priced at: twelve steps at the heaviest weight
abbrev pub dearest_bar : ℕ
dearest_bar = 864000

-- a list of so many bars that goes on
pub record IsCourse (g : Grammar) (p : Performance) (voices : List (List Chord)) (bars : ℕ) (t : Course) : Type 0 where
  pub long : length t.barring.ticks ≡ bars + 1
  pub starts : HasStarts g (with_barlines p t.barring.ticks).bars
  pub near : Adjacent 0 (bars_of g p t.barring.ticks) (barring_end t.barring)
  pub early : barring_end t.barring ≤ LATEST_TICK
  pub heads : Each (AreHeads g p t.barring.ticks) voices t.heads
  pub prices : t.barring.prices ≤ bars * dearest_bar

-- the input of a bar of a voice, of the signature of another bar
abbrev pub cell : Grammar → Bar → ℕ → ℕ → List Chord → BarInput
cell g like start end voice = input g (voice_bar g [] 0 0 (with_start start like) end) (soundings voice)

-- the list of no bar: no chord leaves, at no cost
abbrev pub first_heads : Heads
first_heads = record { costs = Some 0 ∷ None ∷ None ∷ None ∷ None ∷ [] }

abbrev pub first_course : ℕ → Course
first_course voices = record { barring = no_bars; heads = replicate voices first_heads }

-- What a list of barlines costs so far: the least cost of trees of its bars, where chords may leave the last bar.
use Rattle.std.specs.Prelude.{◌≡◌, ℕ, ◌+◌, ◌≤◌, List, [], ◌∷◌}
use Rattle.rhythm_base.specs.declared.chord.Chord.{Chord}
use Rattle.rhythm_base.specs.declared.inner.Inner.{Inner}
use Rattle.rhythm_base.specs.Cost.{cost}
use Rattle.rhythm_base.specs.DeadBars.{chords_before, end_of_bars}
use Rattle.rhythm_base.specs.Forest.{Tree}
use Rattle.rhythm_base.specs.Grammar.{Grammar}
use Rattle.rhythm_base.specs.Leaves.{Fits, VoiceBar, soundings}
use Rattle.rhythm_base.specs.Performance.{Performance}
use Rattle.rhythm_base.specs.Voices.{AreChordsOf, HasStarts, voice_bars}
use Rattle.barline_follow.specs.Bars.{with_barlines}

-- the chords that begin in these bars
abbrev pub chords_in : List VoiceBar → List Inner → List Inner
chords_in bars cs = chords_before (end_of_bars 0 bars) cs

-- the trees of the bars fit, and at most four chords leave the last of them
pub record IsHeadRun (g : Grammar) (bars : List VoiceBar) (cs : List Inner) (trees : List Tree) : Type 0 where
  pub to : ℕ
  pub fits : Fits g bars (chords_in bars cs) trees to
  pub few : to ≤ 4

abbrev pub run_cost : Grammar → List VoiceBar → List Inner → List Tree → ℕ
run_cost g bars cs trees = cost g bars (chords_in bars cs) trees

-- the least cost of a run of a voice over these barlines, where there is a root symbol for each bar
pub record IsHeadOfVoice (g : Grammar) (p : Performance) (ticks : List ℕ) (channel cost_of_voice : ℕ) : Type 0 where
  pub starts : HasStarts g (with_barlines p ticks).bars
  pub chords : List Chord
  pub are_chords : AreChordsOf g p channel chords
  pub trees : List Tree
  pub run : IsHeadRun g (voice_bars g (with_barlines p ticks) channel) (soundings chords) trees
  pub is : cost_of_voice ≡ run_cost g (voice_bars g (with_barlines p ticks) channel) (soundings chords) trees
  pub least : (others : List Tree) → IsHeadRun g (voice_bars g (with_barlines p ticks) channel) (soundings chords) others
      → cost_of_voice ≤ run_cost g (voice_bars g (with_barlines p ticks) channel) (soundings chords) others

-- the sum of what these voices cost, each by itself
abbrev pub IsSum : (ℕ → ℕ → Type 0) → List ℕ → ℕ → Type 0
IsSum Costs [] sum = sum ≡ 0
IsSum Costs (channel ∷ channels) sum = (first : ℕ) × (others : ℕ) × Costs channel first × IsSum Costs channels others × (sum ≡ first + others)

-- the head cost of barlines: the sum over the voices
abbrev pub IsHeadCost : Grammar → Performance → List ℕ → ℕ → Type 0
IsHeadCost g p ticks c = IsSum (IsHeadOfVoice g p ticks) p.channels c

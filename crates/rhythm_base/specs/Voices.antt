-- The voices of a performance: their bars and chords, their least derivations and what these cost.
use Rattle.std.specs.Prelude.{◌≡◌, ◌≢◌, ℕ, suc, ◌+◌, ◌-◌, ◌<◌, ◌==◌, List, [], ◌∷◌, All, Contains, filter, None, unwrap_or}
use Rattle.rhythm_base.specs.declared.chord.Chord.{Chord}
use Rattle.rhythm_base.specs.declared.note.Bar.{Bar}
use Rattle.rhythm_base.specs.declared.note.Note.{Note}
use Rattle.rhythm_base.specs.declared.pin.Pin.{Pin}
use Rattle.rhythm_base.specs.Chords.{AreChords}
use Rattle.rhythm_base.specs.Cost.{cost}
use Rattle.rhythm_base.specs.DeadBars.{IsDead}
use Rattle.rhythm_base.specs.Barlines.{barline}
use Rattle.rhythm_base.specs.Forest.{Tree}
use Rattle.rhythm_base.specs.Least.{IsLeast}
use Rattle.rhythm_base.specs.Leaves.{FitsVoice, VoiceBar, soundings}
use Rattle.rhythm_base.specs.Performance.{Performance}
use Rattle.rhythm_base.specs.Grammar.{Grammar, root_of}
use Rattle.rhythm_base.specs.Pins.{pin_of}

-- the grammar has a root symbol for the signature of each bar
abbrev pub HasStarts : Grammar → List Bar → Type 0
HasStarts g bars = All (λ b. root_of g.starts b.num b.den ≢ None) bars

-- bar number i of a voice, which runs to the tick `end`. Where the grammar has no root symbol for it, 0 stands there, so what is
-- asked of derivations below asks for root symbols first
abbrev pub voice_bar : Grammar → List Pin → ℕ → ℕ → Bar → ℕ → VoiceBar
voice_bar g pins channel i b end = record {
  start = b.start;
  length = end - b.start;
  num = b.num;
  den = b.den;
  symbol = unwrap_or (root_of g.starts b.num b.den) 0;
  pin = pin_of pins channel i;
}

-- the bars of a voice, from number i on: each runs to the start of the next, and the last to the last barline
abbrev pub voice_bars_from : Grammar → List Pin → ℕ → ℕ → ℕ → List Bar → List VoiceBar
voice_bars_from g pins channel last i [] = []
voice_bars_from g pins channel last i (b ∷ bars) =
    voice_bar g pins channel i b (barline bars last 0) ∷ voice_bars_from g pins channel last (suc i) bars

abbrev pub voice_bars : Grammar → Performance → ℕ → List VoiceBar
voice_bars g p channel = voice_bars_from g p.pins channel p.last 0 p.bars

abbrev pub notes_of_voice : Performance → ℕ → List Note
notes_of_voice p channel = filter (λ n. n.channel == channel) p.notes

-- these are the chords of the voice
abbrev pub AreChordsOf : Grammar → Performance → ℕ → List Chord → Type 0
AreChordsOf g p channel cs = AreChords p.tempos p.division g.window (notes_of_voice p channel) cs

-- the least derivation of a voice
pub record IsLeastOf (g : Grammar) (p : Performance) (channel : ℕ) (ts : List Tree) : Type 0 where
  pub starts : HasStarts g p.bars
  pub chords : List Chord
  pub are_chords : AreChordsOf g p channel chords
  pub least : IsLeast g (voice_bars g p channel) (soundings chords) ts

-- what the least derivation of a voice costs
pub record IsLeastCost (g : Grammar) (p : Performance) (channel cost_of_voice : ℕ) : Type 0 where
  pub starts : HasStarts g p.bars
  pub chords : List Chord
  pub are_chords : AreChordsOf g p channel chords
  pub trees : List Tree
  pub least : IsLeast g (voice_bars g p channel) (soundings chords) trees
  pub is : cost_of_voice ≡ cost g (voice_bars g p channel) (soundings chords) trees

-- the sum of the least costs of these voices
abbrev pub IsSumOfCosts : Grammar → Performance → List ℕ → ℕ → Type 0
IsSumOfCosts g p [] sum = sum ≡ 0
IsSumOfCosts g p (channel ∷ channels) sum =
    (first : ℕ) × (others : ℕ) × IsLeastCost g p channel first × IsSumOfCosts g p channels others × (sum ≡ first + others)

-- the cost of a performance: the sum over its voices
abbrev pub IsCostOf : Grammar → Performance → ℕ → Type 0
IsCostOf g p sum = IsSumOfCosts g p p.channels sum

-- there is a root symbol for each bar, and some derivation of the voice fits
abbrev pub HasDerivation : Grammar → Performance → ℕ → Type 0
HasDerivation g p channel =
    (cs : List Chord) × (ts : List Tree) × HasStarts g p.bars × AreChordsOf g p channel cs × FitsVoice g (voice_bars g p channel) (soundings cs) ts

-- there is a root symbol for each bar; the first voice without a fitting derivation, and its dead bar
pub record IsDeadVoice (g : Grammar) (p : Performance) (channel bar : ℕ) : Type 0 where
  pub starts : HasStarts g p.bars
  pub voice : Contains p.channels channel
  pub chords : List Chord
  pub are_chords : AreChordsOf g p channel chords
  pub dead : IsDead g (voice_bars g p channel) (soundings chords) bar
  pub first : (c : ℕ) → Contains p.channels c → c < channel → HasDerivation g p c

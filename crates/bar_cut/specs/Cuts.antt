-- What is cut into cells: the bars of a voice and its chords.
use Rattle.rhythm_base.specs.declared.limits.TheConstants.{LATEST_TICK, MOST_BARS}
use Rattle.std.specs.Prelude.{◌≡◌, ℕ, ◌-◌, min, ◌<◌, ◌≤◌, List, length, map, take, All, option_map, slice_get, slice_index, Option, Some, None, Result, Err}
use Rattle.std.specs.Borrow.{Bor}
use Rattle.std.specs.List.Sorted.{IsStrictlyIncreasing}
use Rattle.bar_cut.specs.declared.fault.CutFault.{CutFault}
use Rattle.bar_cut.specs.declared.fault.CutFault.TheVariants.{NoStart}
use Rattle.rhythm_base.specs.Shape.{Shape}
use Rattle.rhythm_base.specs.declared.chord.Chord.{Chord}
use Rattle.rhythm_base.specs.declared.inner.Inner.{Inner}
use Rattle.rhythm_base.specs.declared.note.Bar.{Bar}
use Rattle.rhythm_base.specs.declared.pin.Pin.{Pin}
use Rattle.rhythm_base.specs.BarInput.{BarInput}
use Rattle.rhythm_base.specs.Cells.{input}
use Rattle.rhythm_base.specs.Leaves.{soundings}
use Rattle.rhythm_base.specs.Line.{Rising}
use Rattle.rhythm_base.specs.Performance.{IsWellFormed, Performance}
use Rattle.rhythm_base.specs.Grammar.{Grammar, root_of}
use Rattle.rhythm_base.specs.Signatures.{IsSignature}
use Rattle.rhythm_base.specs.Voices.{AreChordsOf, HasStarts, voice_bars, voice_bars_from}

-- a bar that begins before the last barline
pub record IsBarBefore (last : ℕ) (b : Bar) : Type 0 where
  pub start : b.start < last
  pub signature : IsSignature b.num b.den

-- bars side by side from tick 0 to the last barline, and chords whose onsets rise and whose ends are not before them
pub record AreBarsAndChords (bars : List Bar) (last : ℕ) (voice : List Chord) : Type 0 where
  pub some_bar : 1 ≤ length bars
  pub few_bars : length bars ≤ MOST_BARS
  pub are_before : All (IsBarBefore last) bars
  pub first_bar : slice_index (map (λ b. b.start) bars) 0 ≡ 0
  pub bars_rise : IsStrictlyIncreasing (map (λ b. b.start) bars)
  pub last_barline : last ≤ LATEST_TICK
  pub chords_rise : Rising 0 (soundings voice)
  pub chords : All (λ c. c.onset ≤ c.end) voice

-- the input of each cell of the voice, bar after bar
abbrev pub inputs : Grammar → List Pin → ℕ → ℕ → List Bar → List Chord → List BarInput
inputs g pins channel last bars voice = map (λ m. input g m (soundings voice)) (voice_bars_from g pins channel last 0 bars)

-- the first bar whose signature has no root symbol, and that signature
pub record IsFirstWithoutStart (g : Grammar) (bars : List Bar) (bar num den : ℕ) : Type 0 where
  pub it : Bar
  pub there : slice_get bars bar ≡ Some it
  pub signature : (num ≡ it.num) × (den ≡ it.den)
  pub none : root_of g.starts num den ≡ None
  pub first : HasStarts g (take bar bars)

-- the bar that an answer names is the first without a root symbol
abbrev pub NamesFirstWithoutStart : {T : Type 0} → Grammar → List Bar → Result T CutFault → Type 0
NamesFirstWithoutStart g bars answer = (bar num den : ℕ) → answer ≡ Err (NoStart bar num den) → IsFirstWithoutStart g bars bar num den

-- a chord in ticks from a bar's start, its end cut to the bar's length
abbrev pub moved : ℕ → ℕ → Chord → Inner
moved start length c = record { onset = c.onset - start; end = min (c.end - start) length }

abbrev pub moved_all : ℕ → ℕ → List Chord → List Inner
moved_all start length own = map (λ c. moved start length c) own

-- chords that begin from a tick on, before another one, and end not before they begin
abbrev pub AreInside : ℕ → ℕ → List Chord → Type 0
AreInside start end own = All (λ c. (start ≤ c.onset) × (c.onset < end) × (c.onset ≤ c.end)) own

abbrev pub Rises : ℕ → List Chord → Type 0
Rises low cs = Rising low (soundings cs)

-- a bar that runs to `end`, and chords that begin in it, one after another
pub record IsBarWithChords (bar : Bar) (end : ℕ) (own : List Chord) : Type 0 where
  pub signature : IsSignature bar.num bar.den
  pub some_tick : bar.start < end
  pub few_ticks : end ≤ LATEST_TICK
  pub rise : Rises bar.start own
  pub inside : AreInside bar.start end own

-- the shape of a pin that is lent
abbrev pub pinned : Option (Bor Shape) → Option Shape
pinned pin = option_map (λ s. s.now) pin

-- the input of a bar that runs to `end`, with its own chords, and the end of the chord before them
abbrev pub bar_input : Grammar → ℕ → Bar → ℕ → List Chord → ℕ → Option Shape → BarInput
bar_input g symbol bar end own before pin = record {
  symbol = symbol;
  resolution = g.resolution;
  num = bar.num;
  den = bar.den;
  length = end - bar.start;
  chords = moved_all bar.start (end - bar.start) own;
  before = min (before - bar.start) (end - bar.start);
  pin = pin;
}

-- The bars of a well-formed performance and the chords of a voice can be cut, and what they are cut into is the input of each bar
-- of the voice.
pub record PerformancesCanBeCut : Type 0 where
  pub bars_and_chords : (g : Grammar) (p : Performance) (channel : ℕ) (cs : List Chord) → IsWellFormed p → AreChordsOf g p channel cs → AreBarsAndChords p.bars p.last cs
  pub cells : (g : Grammar) (p : Performance) (channel : ℕ) (cs : List Chord) → inputs g p.pins channel p.last p.bars cs ≡ map (λ m. input g m (soundings cs)) (voice_bars g p channel)

-- The laws, each as one statement over the definitions.
use Rattle.std.specs.Prelude.{◌≡◌, ℕ, ◌*◌, ◌≤◌, List, length, All, sum_by}
use Rattle.rhythm_base.specs.declared.chord.Chord.{Chord}
use Rattle.rhythm_base.specs.declared.note.Bar.{Bar}
use Rattle.rhythm_base.specs.declared.sound.Sound.{Sound}
use Rattle.rhythm_base.specs.declared.span.Span.{Span}
use Rattle.rhythm_base.specs.Forest.{Tree}
use Rattle.rhythm_base.specs.Grammar.{Grammar}
use Rattle.rhythm_base.specs.Leaves.{FitsVoice, VoiceBar, soundings}
use Rattle.rhythm_base.specs.Performance.{IsWellFormed, Performance}
use Rattle.rhythm_base.specs.Readable.{IsReadable}
use Rattle.durations.specs.Spans.{AreSpans, parts_of_unit, sound_length}
use Rattle.rhythm_base.specs.Voices.{AreChordsOf, voice_bars}
use Rattle.tree_laws.specs.Voices.{IsVoice}
use Rattle.derivation.specs.PerformanceScore.{IsScoreOf}
use Rattle.derivation.specs.Score.{IsScore, Score}
use Rattle.derivation.specs.Sounds.{derivation_sounds, plain_bars}
use Rattle.derivation.specs.WellSounded.{AreKeys, AreWellSounded}

-- the sounds of a derivation that fits are well sounded, where each chord has keys
abbrev pub DerivationsAreWellSounded : Type 0
DerivationsAreWellSounded =
    (g : Grammar) (bars : List VoiceBar) (cs : List Chord) (ts : List Tree) → IsVoice g bars (soundings cs)
    → All (λ c. AreKeys c.keys) cs → FitsVoice g bars (soundings cs) ts
    → AreWellSounded g.resolution (length bars) (derivation_sounds g bars cs ts)

-- every chord of a voice of a well-formed performance has keys
abbrev pub ChordsHaveKeys : Type 0
ChordsHaveKeys =
    (g : Grammar) (p : Performance) (channel : ℕ) (cs : List Chord) → IsWellFormed p → AreChordsOf g p channel cs
    → All (λ c. AreKeys c.keys) cs

-- the bars of the voices of a performance, without pins
abbrev pub unpinned_bars : Grammar → Performance → List VoiceBar
unpinned_bars g p = plain_bars g p.last p.bars

-- What sounds does not depend on the pins: what fits with the pins of a performance fits without them and sounds the same,
-- and what is a voice is one without them.
pub record PinsDoNotSound : Type 0 where
  pub voices : (g : Grammar) (p : Performance) (channel : ℕ) (cs : List Chord)
      → IsVoice g (voice_bars g p channel) (soundings cs) → IsVoice g (unpinned_bars g p) (soundings cs)
  pub fits : (g : Grammar) (p : Performance) (channel : ℕ) (cs : List Chord) (ts : List Tree)
      → FitsVoice g (voice_bars g p channel) (soundings cs) ts → FitsVoice g (unpinned_bars g p) (soundings cs) ts
  pub sounds : (g : Grammar) (p : Performance) (channel : ℕ) (cs : List Chord) (ts : List Tree)
      → derivation_sounds g (voice_bars g p channel) cs ts ≡ derivation_sounds g (unpinned_bars g p) cs ts

-- the sounds of a voice have at most one list of spans
abbrev pub SpansAreOne : Type 0
SpansAreOne =
    (resolution : ℕ) (bars : List Bar) (sounds : List Sound) (xs ys : List Span) → 1 ≤ resolution
    → AreSpans resolution bars sounds xs → AreSpans resolution bars sounds ys → xs ≡ ys

-- and at least one
abbrev pub SpansExist : Type 0
SpansExist = (resolution : ℕ) (bars : List Bar) (sounds : List Sound) → 1 ≤ resolution → (xs : List Span) × AreSpans resolution bars sounds xs

-- well-sounded sounds are together as long as all bars, in parts of a whole note
abbrev pub WellSoundedFillTheScore : Type 0
WellSoundedFillTheScore =
    (resolution : ℕ) (bars : List Bar) (sounds : List Sound) → AreWellSounded resolution (length bars) sounds
    → sum_by (sound_length bars) sounds ≡ resolution * sum_by parts_of_unit bars

-- a performance and a grammar have one score, which can be written
pub record ScoresAreOne : Type 0 where
  pub score : (g : Grammar) (p : Performance) (s t : Score) → IsReadable g → IsWellFormed p → IsScoreOf g p s → IsScoreOf g p t → s ≡ t
  pub can_be_written : (g : Grammar) (p : Performance) (s : Score) → IsReadable g → IsWellFormed p → IsScoreOf g p s → IsScore s

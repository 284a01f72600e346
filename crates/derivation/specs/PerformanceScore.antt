-- The score of a performance and a grammar: the sounds of the least derivation of each voice, with the signatures, tempos and keys of
-- the bars.
use Rattle.std.specs.Prelude.{◌≡◌, ℕ, List, map}
use Rattle.rhythm_base.specs.declared.chord.Chord.{Chord}
use Rattle.rhythm_base.specs.declared.note.Bar.{Bar}
use Rattle.rhythm_base.specs.declared.sound.Sound.{Sound}
use Rattle.rhythm_base.specs.Forest.{Tree}
use Rattle.rhythm_base.specs.Grammar.{Grammar}
use Rattle.rhythm_base.specs.Least.{IsLeast}
use Rattle.rhythm_base.specs.Leaves.{soundings}
use Rattle.rhythm_base.specs.Lists.{Each}
use Rattle.rhythm_base.specs.Performance.{Performance}
use Rattle.rhythm_base.specs.Time.{key_at, tempo_at}
use Rattle.rhythm_base.specs.Voices.{AreChordsOf, HasStarts, voice_bars}
use Rattle.derivation.specs.Sounds.{derivation_sounds}
use Rattle.derivation.specs.declared.score.ScoreBar.{ScoreBar}
use Rattle.derivation.specs.Score.{Score}

-- a bar is written with the tempo and the key in force at its start
abbrev pub score_bar : Performance → Bar → ScoreBar
score_bar p bar = record {
  num = bar.num;
  den = bar.den;
  tempo = tempo_at p.tempos bar.start;
  sf = key_at p.key_marks bar.start;
}

-- the sounds of the least derivation of a voice
pub record AreLeastSounds (g : Grammar) (p : Performance) (channel : ℕ) (sounds : List Sound) : Type 0 where
  pub starts : HasStarts g p.bars
  pub chords : List Chord
  pub are_chords : AreChordsOf g p channel chords
  pub trees : List Tree
  pub least : IsLeast g (voice_bars g p channel) (soundings chords) trees
  pub are : sounds ≡ derivation_sounds g (voice_bars g p channel) chords trees

pub record IsScoreOf (g : Grammar) (p : Performance) (s : Score) : Type 0 where
  pub resolution : s.resolution ≡ g.resolution
  pub bars : s.bars ≡ map (score_bar p) p.bars
  pub voices : Each (AreLeastSounds g p) p.channels s.voices

-- A performance as contracts see it, and what every performance keeps.
use Rattle.rhythm_base.specs.declared.limits.TheConstants.{LATEST_TICK, MOST_DIVISION, SLOWEST_TEMPO, MOST_BARS}
use Rattle.std.specs.Prelude.{◌≡◌, ℕ, pos, negsuc, ◌≤ℤ◌, ◌<◌, ◌≤◌, List, [], ◌∷◌, length, map, All, Contains, IsTrue, slice_index}
use Rattle.std.specs.List.Sorted.{IsNonDecreasing, IsStrictlyIncreasing}
use Rattle.rhythm_base.specs.declared.event.Tempo.{Tempo}
use Rattle.rhythm_base.specs.declared.event.KeyMark.{KeyMark}
use Rattle.rhythm_base.specs.declared.note.Bar.{Bar}
use Rattle.rhythm_base.specs.declared.note.Note.{Note}
use Rattle.rhythm_base.specs.declared.pin.Pin.{Pin}
use Rattle.rhythm_base.specs.Shapes.{is_shape}
use Rattle.rhythm_base.specs.Signatures.{IsSignature, IsWholeBar}
use Rattle.rhythm_base.specs.Lists.{AreInOrder}

pub record Performance : Type 0 where
  pub division : ℕ
  pub tempos : List Tempo
  pub key_marks : List KeyMark
  pub bars : List Bar
  pub last : ℕ
  pub channels : List ℕ
  pub notes : List Note
  pub pins : List Pin

-- notes are listed by channel, onset and key
abbrev pub place_of_note : Note → List ℕ
place_of_note n = n.channel ∷ n.onset ∷ n.key ∷ []

-- pins are listed by channel and bar
abbrev pub place_of_pin : Pin → List ℕ
place_of_pin p = p.channel ∷ p.bar ∷ []

-- a note of a listed channel, which begins before the last barline and ends from its onset to there
pub record IsNoteOf (channels : List ℕ) (last : ℕ) (n : Note) : Type 0 where
  pub voice : Contains channels n.channel
  pub key : n.key < 128
  pub onset : n.onset < last
  pub after : n.onset ≤ n.end
  pub end : n.end ≤ last

-- a pin of a listed channel and a bar that is there
pub record IsPinOf (channels : List ℕ) (bars : ℕ) (p : Pin) : Type 0 where
  pub voice : Contains channels p.channel
  pub bar : p.bar < bars
  pub shape : IsTrue (is_shape p.shape)

pub record IsTempo (t : Tempo) : Type 0 where
  pub some : 1 ≤ t.micros
  pub few : t.micros ≤ SLOWEST_TEMPO

pub record IsKeyMark (k : KeyMark) : Type 0 where
  pub low : negsuc 6 ≤ℤ k.sf
  pub high : k.sf ≤ℤ pos 7

-- a bar begins before the last barline, and a bar of its signature has a whole number of ticks
pub record IsBarOf (division last : ℕ) (b : Bar) : Type 0 where
  pub start : b.start < last
  pub signature : IsSignature b.num b.den
  pub whole : IsWholeBar division b.num b.den

pub record IsWellFormed (p : Performance) : Type 0 where
  pub division_low : 1 ≤ p.division
  pub division_high : p.division ≤ MOST_DIVISION
  pub tempos : All IsTempo p.tempos
  pub tempos_in_order : IsNonDecreasing (map (λ t. t.tick) p.tempos)
  pub key_marks : All IsKeyMark p.key_marks
  pub key_marks_in_order : IsNonDecreasing (map (λ k. k.tick) p.key_marks)
  pub some_bar : 1 ≤ length p.bars
  pub few_bars : length p.bars ≤ MOST_BARS
  pub bars : All (IsBarOf p.division p.last) p.bars
  pub first_bar : slice_index (map (λ b. b.start) p.bars) 0 ≡ 0
  pub bars_rise : IsStrictlyIncreasing (map (λ b. b.start) p.bars)
  pub last_barline : p.last ≤ LATEST_TICK
  pub some_voice : 1 ≤ length p.channels
  pub voices_rise : IsStrictlyIncreasing p.channels
  pub voices : All (λ c. c < 16) p.channels
  pub notes : All (IsNoteOf p.channels p.last) p.notes
  pub notes_in_order : AreInOrder place_of_note p.notes
  pub pins : All (IsPinOf p.channels (length p.bars)) p.pins
  pub pins_in_order : AreInOrder place_of_pin p.pins

-- The notes of a voice, as its track and its bars need them.
use Rattle.std.proofs.Common.{◌≡◌, ℕ, zero, suc, ◌+◌, ◌*◌, ◌/◌, ◌%◌, ◌<◌, ◌≤◌, List, [], ◌∷◌, ◌++◌, refl, arith}
use Rattle.std.specs.List.{flat_map, range_with_len}
use Rattle.std.proofs.Math.Nat.{mod-lt}
use Rattle.rhythm_base.specs.declared.note.Note.{Note}
use Rattle.rhythm_gen.specs.declared.figure.Figure.{Figure}
use Rattle.rhythm_gen.specs.declared.figure.Figure.TheVariants.{Rest, One, Two}
use Rattle.rhythm_gen.specs.Beat.{beat_notes, figure, key, kind, notes_in_beat, shift}
use Rattle.rhythm_gen.specs.Draws.{draw}
use Rattle.rhythm_gen.specs.Voice.{voice_notes}

-- a note of a voice, after a tick and not near to the end of the voice
pub record IsSung (voice low end : ℕ) (n : Note) : Type 0 where
  pub of_voice : n.channel ≡ voice
  pub after : low ≤ n.onset
  pub order : n.onset < n.end
  pub early : n.onset + 220 ≤ end
  pub key : n.key < 128

-- one after another
abbrev pub AreSung : ℕ → ℕ → List Note → ℕ → Type 0
AreSung voice low [] end = low ≤ end
AreSung voice low (n ∷ ns) end = IsSung voice low end n × AreSung voice n.end ns end

-- a figure, and after it notes that follow
figure_first : (f : Figure) (channel k t low end : ℕ) (later : List Note) → k < 128 → low ≤ t → t + 460 ≤ end → ((u : ℕ) → u ≤ t + 420 → AreSung channel u later end) → AreSung channel low (notes_in_beat f channel k t ++ later) end
figure_first Rest channel k t low end later small le room follow = follow low (omega arith)
figure_first One channel k t low end later small le room follow =
    (record { of_voice = refl; after = le; order = omega arith; early = omega arith; key = small }, follow (t + 400) (omega arith))
figure_first Two channel k t low end later small le room follow = (
  record { of_voice = refl; after = le; order = omega arith; early = omega arith; key = small },
  (record { of_voice = refl; after = omega arith; order = omega arith; early = omega arith; key = small }, follow (t + 420) (omega arith)),
)

small_key : (channel v : ℕ) → key channel v < 128
small_key channel v = let k : (v / 84) % 12 < 12 = mod-lt (v / 84) (omega arith) in omega arith

beats_sung : (start channel a n low end : ℕ) → low ≤ 480 * a → 480 * (a + n) ≤ end → AreSung channel low (flat_map (λ beat. beat_notes channel beat (draw start (beat + 1))) (range_with_len a n)) end
beats_sung start channel a zero low end le room = omega arith
beats_sung start channel a (suc n) low end le room =
    let v = draw start (a + 1) in
    let late : shift v < 21 = mod-lt (v / 4) (omega arith) in
    let later : List Note = flat_map (λ beat. beat_notes channel beat (draw start (beat + 1))) (range_with_len (a + 1) n) in
    figure_first (figure (kind (a % 4) v)) channel (key channel v) (480 * a + shift v) low end later (small_key channel v) (omega arith) (omega arith)
    (λ u early. beats_sung start channel (a + 1) n u end (omega arith) (omega arith))

-- from tick 0 to the last barline
pub voice_sung : (start bars channel : ℕ) → AreSung channel 0 (voice_notes start bars channel) (1920 * bars)
voice_sung start bars channel = beats_sung start channel 0 (4 * bars) 0 (1920 * bars) (omega arith) (omega arith)

-- they begin and end before the voice does
pub sung_within : (voice low end : ℕ) (notes : List Note) → AreSung voice low notes end → low ≤ end
sung_within voice low end [] sung = omega (arith, sung)
sung_within voice low end (n ∷ ns) sung = omega (arith, sung.0.after, sung.0.early)

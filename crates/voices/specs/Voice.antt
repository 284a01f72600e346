-- The notes of one voice, and what holds of all their chords.
use Rattle.rhythm_base.specs.declared.limits.TheConstants.{LATEST_TICK}
use Rattle.std.specs.Prelude.{◌≡◌, ℕ, ◌≤◌, ◌<◌, ◌^◌, List, map, max, bit_or, All, AllPairs}
use Rattle.std.specs.List.Sorted.{IsStrictlyIncreasing}
use Rattle.rhythm_base.specs.declared.chord.Chord.{Chord}
use Rattle.rhythm_base.specs.declared.event.Tempo.{Tempo}
use Rattle.rhythm_base.specs.declared.note.Note.{Note}
use Rattle.rhythm_base.specs.Chords.{AreChords}
use Rattle.rhythm_base.specs.Lists.{AreInOrder}
use Rattle.rhythm_base.specs.Performance.{place_of_note}

-- a note of 128 keys that lies before the latest tick of a score
pub record IsSounded (n : Note) : Type 0 where
  pub key : n.key < 128
  pub onset : n.onset ≤ LATEST_TICK
  pub end : n.end ≤ LATEST_TICK

-- the notes of one channel, in order
pub record AreNotesOfVoice (notes : List Note) : Type 0 where
  pub channel : AllPairs (λ m n. m.channel ≡ n.channel) notes
  pub in_order : AreInOrder place_of_note notes
  pub each : All IsSounded notes

-- a chord with one note more
abbrev pub joined : Chord → Note → Chord
joined chord n = record { onset = chord.onset; end = max chord.end n.end; keys = bit_or chord.keys (2 ^ n.key) }

-- each chord begins after the one before it
abbrev pub ChordsRise : Type 0
ChordsRise =
    (tempos : List Tempo) (division window : ℕ) (notes : List Note) (cs : List Chord)
    → AreChords tempos division window notes cs → IsStrictlyIncreasing (map (λ c. c.onset) cs)

-- chords end at or after their onsets, and no later than a tick, where their notes do
abbrev pub NoChordEndsBeforeItBegins : Type 0
NoChordEndsBeforeItBegins =
    (tempos : List Tempo) (division window high : ℕ) (notes : List Note) (cs : List Chord)
    → AreChords tempos division window notes cs
    → All (λ n. (n.onset ≤ n.end) × (n.end ≤ high)) notes → All (λ c. (c.onset ≤ c.end) × (c.end ≤ high)) cs

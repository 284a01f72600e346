-- The generated file.
use Rattle.std.specs.Prelude.{ℕ, ◌*◌, ◌≤◌, List, [], ◌∷◌, ◌++◌}
use Rattle.rhythm_gen.specs.Draws.{draw}
use Rattle.rhythm_gen.specs.Track.{track_bytes}
use Rattle.rhythm_gen.specs.Voice.{voice_notes}
use Rattle.rhythm_gen.specs.declared.piece_bars.TheConstants.{MOST_PIECE_BARS}
use Rattle.rhythm_gen.specs.declared.piece_number.TheConstants.{GREATEST_NUMBER}
use Rattle.smf_bytes.specs.Chunk.{header_bytes, track_chunk_bytes}
use Rattle.smf_bytes.specs.Track.{bytes_from, end_of_track_bytes}

-- 500,000 microseconds to a quarter note
abbrev pub tempo_bytes : List ℕ
tempo_bytes = 255 ∷ 81 ∷ 3 ∷ 7 ∷ 161 ∷ 32 ∷ []

-- 4/4, a click of the metronome for each quarter note, and eight 32nd notes to a quarter note
abbrev pub signature_bytes : List ℕ
signature_bytes = 255 ∷ 88 ∷ 4 ∷ 4 ∷ 2 ∷ 24 ∷ 8 ∷ []

-- the tempo and the signature of the whole piece, all at tick 0
abbrev pub piece_conductor : List ℕ
piece_conductor = bytes_from 0 ((0, tempo_bytes) ∷ (0, signature_bytes) ∷ (0, end_of_track_bytes) ∷ [])

-- The track of a voice, where the stream has come to `start`. Each bar has 1920 ticks.
abbrev pub voice_track : ℕ → ℕ → ℕ → List ℕ
voice_track start bars channel = track_chunk_bytes (track_bytes (voice_notes start bars channel) (1920 * bars))

-- there is a piece of this number with so many bars
pub record HasPiece (number bars : ℕ) : Type 0 where
  pub numbered : number ≤ GREATEST_NUMBER
  pub some_bar : 1 ≤ bars
  pub few_bars : bars ≤ MOST_PIECE_BARS

-- The file of a number and a count of bars: three tracks, and 480 ticks to a quarter note. Channel 1 goes on in the stream
-- after the draws of channel 0.
abbrev pub generated : ℕ → ℕ → List ℕ
generated number bars =
    header_bytes 3 480 ++ (track_chunk_bytes piece_conductor ++ (voice_track number bars 0 ++ voice_track (draw number (4 * bars)) bars 1))

-- What a piece says, by what it was made of: its events, its notes and its bars.
use Rattle.std.specs.Prelude.{ℕ, ◌*◌, List, [], ◌∷◌, ◌++◌, map}
use Rattle.std.specs.List.{flat_map, range_with_len}
use Rattle.rhythm_base.specs.declared.event.Event.{Event}
use Rattle.rhythm_base.specs.declared.event.What.TheVariants.{On, Off, Tempo, Signature}
use Rattle.rhythm_base.specs.declared.note.Bar.{Bar}
use Rattle.rhythm_base.specs.declared.note.Note.{Note}
use Rattle.rhythm_gen.specs.Draws.{draw}
use Rattle.rhythm_gen.specs.Voice.{voice_notes}
use Rattle.smf_reader.specs.Played.{Smf, Track}

-- a note begins and ends
abbrev pub played_note : Note → List Event
played_note n = record { tick = n.onset; what = On n.channel n.key } ∷ record { tick = n.end; what = Off n.channel n.key } ∷ []

-- the notes of a voice, note after note, up to the last barline
abbrev pub played_voice : List Note → ℕ → Track
played_voice notes end = record { events = flat_map played_note notes; last = end }

-- 500,000 microseconds to a quarter note, and 4/4, from the beginning on
abbrev pub played_conductor : Track
played_conductor = record { events = record { tick = 0; what = Tempo 500000 } ∷ record { tick = 0; what = Signature 4 2 } ∷ []; last = 0 }

-- the piece of a number and a count of bars
abbrev pub meant_file : ℕ → ℕ → Smf
meant_file number bars = record {
  division = 480;
  tracks = played_conductor
      ∷ played_voice (voice_notes number bars 0) (1920 * bars)
      ∷ played_voice (voice_notes (draw number (4 * bars)) bars 1) (1920 * bars)
      ∷ [];
}

-- its notes, voice after voice
abbrev pub meant_notes : ℕ → ℕ → List Note
meant_notes number bars = voice_notes number bars 0 ++ voice_notes (draw number (4 * bars)) bars 1

-- its bars, of 4/4 and 1920 ticks each
abbrev pub meant_bars : ℕ → List Bar
meant_bars bars = map (λ i. record { start = 1920 * i; num = 4; den = 4 }) (range_with_len 0 bars)

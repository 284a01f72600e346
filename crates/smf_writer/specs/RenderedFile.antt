-- The MIDI file of the events of a score.
use Rattle.std.specs.Prelude.{◌≡◌, ℕ, ◌*◌, ◌^◌, ◌<◌, ◌≤◌, ◌==◌, All, List, [], ◌∷◌, filter, length, map}
use Rattle.std.proofs.Common.{suc}
use Rattle.std.specs.List.{flat_map}
use Rattle.std.specs.List.Sorted.{IsStrictlyIncreasing}
use Rattle.rhythm_base.specs.declared.event.Event.{Event}
use Rattle.rhythm_base.specs.declared.note.Note.{Note}
use Rattle.derivation.specs.declared.score.ScoreBar.{ScoreBar}
use Rattle.voice_events.specs.declared.event.KernEvent.{KernEvent}
use Rattle.smf_bytes.specs.Chunk.{file_bytes, track_chunk_bytes}
use Rattle.smf_bytes.specs.Track.{content_bytes}
use Rattle.smf_bytes.specs.declared.quantity.TheConstants.{GREATEST_QUANTITY}
use Rattle.smf_writer.specs.declared.fault.RenderFault.{RenderFault}
use Rattle.smf_writer.specs.declared.fault.RenderFault.TheVariants.{Memory, TooLong}
use Rattle.voice_events.specs.Parts.{score_parts}
use Rattle.smf_writer.specs.Changes.{conductor}
use Rattle.smf_writer.specs.EventNotes.{AreKept, event_notes}
use Rattle.smf_writer.specs.NoteMessages.{AreMessages}
use Rattle.smf_writer.specs.Strokes.{voices_from}

-- each voice has a channel of its own, and channels rise
pub record AreChannels (channels : List ℕ) : Type 0 where
  pub rise : IsStrictlyIncreasing channels
  pub few : All (λ c. c < 16) channels

-- the notes that the events of a spine are played as
abbrev pub spine_notes : ℕ → ℕ → ℕ → List KernEvent → List Note
spine_notes resolution channel spine events = flat_map (λ e. event_notes resolution channel e.span) (filter (λ e. e.spine == spine) events)

-- the events of the track of a spine: the messages of its kept notes
abbrev pub IsVoiceTrack : ℕ → List KernEvent → ℕ → ℕ → List Event → Type 0
IsVoiceTrack resolution events spine channel voice =
    (notes : List Note) × AreKept (spine_notes resolution channel spine events) notes × AreMessages notes voice

-- those of the spines from this number on, a channel each
abbrev pub AreVoicesFrom : ℕ → List KernEvent → ℕ → List ℕ → List (List Event) → Type 0
AreVoicesFrom resolution events spine [] voices = voices ≡ []
AreVoicesFrom resolution events spine (channel ∷ channels) voices =
    (voice : List Event) × (others : List (List Event)) × IsVoiceTrack resolution events spine channel voice
    × AreVoicesFrom resolution events (suc spine) channels others × (voices ≡ voice ∷ others)

-- the chunk of a track that ends at a tick ..
abbrev pub track_bytes : ℕ → List Event → List ℕ
track_bytes last track = track_chunk_bytes (content_bytes track last)

-- .. whose length can be written
abbrev pub IsShortTrack : ℕ → List Event → Type 0
IsShortTrack last track = length (content_bytes track last) < 2 ^ 32

-- the chunks of the tracks of all voices
abbrev pub voices_bytes : ℕ → List KernEvent → List ℕ → ℕ → List ℕ
voices_bytes resolution events channels last = flat_map (track_bytes last) (voices_from resolution events 1 channels)

-- The bytes are a file of 16 * R ticks to the quarter note. Its first track has the changes, and each further one a voice; all
-- end with the last barline. The number of ticks up to there and the length of each track can be written.
pub record IsRendered (resolution : ℕ) (bars : List ScoreBar) (channels : List ℕ) (events : List KernEvent) (bytes : List ℕ) : Type 0 where
  pub early : score_parts resolution bars ≤ GREATEST_QUANTITY
  pub voices : List (List Event)
  pub are_voices : AreVoicesFrom resolution events 1 channels voices
  pub contents : List (List ℕ)
  pub are_contents : contents ≡ map (λ track. content_bytes track (score_parts resolution bars)) (conductor resolution bars ∷ voices)
  pub short : All (λ content. length content < 2 ^ 32) contents
  pub are : bytes ≡ file_bytes (16 * resolution) contents

-- there is no file where the last barline is too late, and the fault says its tick; else memory alone may be wanting
abbrev pub HasRenderFault : ℕ → List ScoreBar → RenderFault → Type 0
HasRenderFault resolution bars (TooLong tick) = (tick ≡ score_parts resolution bars) × (GREATEST_QUANTITY < tick)
HasRenderFault resolution bars Memory = score_parts resolution bars ≤ GREATEST_QUANTITY

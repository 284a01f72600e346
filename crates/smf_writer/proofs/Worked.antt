-- The definitions at worked cases.
use Rattle.std.proofs.Common.{◌≡◌, ℕ, zero, suc, ◌+◌, ◌*◌, ◌<◌, ◌^◌, [], ◌∷◌, List, fold, map, replicate, refl, sym, ◌∙◌, subst, arith, None, false}
use Rattle.std.specs.Int.Count.{count_trailing_zeros}
use Rattle.rhythm_base.specs.declared.note.Note.{Note}
use Rattle.rhythm_base.specs.declared.span.Span.{Span}
use Rattle.derivation.specs.declared.score.ScoreBar.{ScoreBar}
use Rattle.voice_events.specs.Events.{span_event}
use Rattle.voice_events.specs.Parts.{score_bar_parts, score_parts}
use Rattle.score_words.specs.Keys.{rising_keys}
use Rattle.smf_bytes.specs.Chunk.{file_bytes}
use Rattle.smf_bytes.specs.Track.{bytes_from, content_bytes}
use Rattle.smf_bytes.specs.declared.quantity.TheConstants.{GREATEST_QUANTITY}
use Rattle.smf_writer.specs.Changes.{conductor}
use Rattle.smf_writer.specs.RenderedFile.{HasRenderFault}
use Rattle.smf_writer.specs.declared.fault.RenderFault.TheVariants.{TooLong}
use Rattle.smf_writer.specs.EventNotes.{event_notes}
use Rattle.smf_writer.specs.Strokes.{spine_events}
use Rattle.smf_writer.specs.NoteMessages.{Message, begins, ends, event_of}

-- one bar, of four units of a quarter note; a quarter note has 64 ticks
abbrev bars : List ScoreBar
bars = record { num = 4; den = 4; tempo = 500000; sf = None } ∷ []

abbrev note : ℕ → ℕ → ℕ → Note
note onset key end = record { channel = 0; key = key; onset = onset; end = end }

abbrev quarter : ℕ → List ℕ → ℕ → Span
quarter number graces keys = record { start = record { num = number; den = 4 }; len = record { num = 1; den = 4 }; keys = keys; graces = graces; short = false }

-- ---- a quarter note

one_note : event_notes 4 0 (quarter 1 [] (2 ^ 62)) ≡ note 64 62 128 ∷ []
unfolding rising_keys
one_note = refl

-- ---- four quarter notes

quarters : List Message
quarters =
    begins (note 0 60 64) ∷ ends (note 0 60 64) ∷ begins (note 64 62 128) ∷ ends (note 64 62 128)
    ∷ begins (note 128 64 192) ∷ ends (note 128 64 192) ∷ begins (note 192 65 256) ∷ ends (note 192 65 256) ∷ []

quarters_written : file_bytes 64 (map (λ track. content_bytes track 256) (conductor 4 bars ∷ map event_of quarters ∷ []))
    ≡ 77 ∷ 84 ∷ 104 ∷ 100 ∷ 0 ∷ 0 ∷ 0 ∷ 6 ∷ 0 ∷ 1 ∷ 0 ∷ 2 ∷ 0 ∷ 64 ∷ 77 ∷ 84 ∷ 114 ∷ 107 ∷ 0 ∷ 0 ∷ 0 ∷ 20 ∷ 0 ∷ 255 ∷ 81 ∷ 3 ∷ 7 ∷ 161 ∷ 32 ∷ 0 ∷ 255 ∷ 88 ∷ 4 ∷ 4 ∷ 2 ∷ 24 ∷ 8 ∷ 130 ∷ 0 ∷ 255 ∷ 47 ∷ 0 ∷ 77 ∷ 84 ∷ 114 ∷ 107 ∷ 0 ∷ 0 ∷ 0 ∷ 36 ∷ 0 ∷ 144 ∷ 60 ∷ 64 ∷ 64 ∷ 128 ∷ 60 ∷ 0 ∷ 0 ∷ 144 ∷ 62 ∷ 64 ∷ 64 ∷ 128 ∷ 62 ∷ 0 ∷ 0 ∷ 144 ∷ 64 ∷ 64 ∷ 64 ∷ 128 ∷ 64 ∷ 0 ∷ 0 ∷ 144 ∷ 65 ∷ 64 ∷ 64 ∷ 128 ∷ 65 ∷ 0 ∷ 0 ∷ 255 ∷ 47 ∷ 0 ∷ []
unfolding quarters bytes_from count_trailing_zeros
quarters_written = refl

quarters_played : spine_events 4 (map (span_event 1) (quarter 0 [] (2 ^ 60) ∷ quarter 1 [] (2 ^ 62) ∷ quarter 2 [] (2 ^ 64) ∷ quarter 3 [] (2 ^ 65) ∷ [])) 1 0 ≡ map event_of quarters
unfolding quarters rising_keys
quarters_played = refl

-- ---- two grace notes before a quarter note

graced : event_notes 4 0 (quarter 1 (2 ^ 62 ∷ 2 ^ 64 ∷ []) (2 ^ 60)) ≡ note 64 62 65 ∷ note 65 64 66 ∷ note 66 60 128 ∷ []
unfolding rising_keys
graced = refl

graces : List Message
graces =
    begins (note 64 62 65) ∷ ends (note 64 62 65) ∷ begins (note 65 64 66) ∷ ends (note 65 64 66) ∷ begins (note 66 60 128) ∷ ends (note 66 60 128) ∷ []

graces_written : file_bytes 64 (map (λ track. content_bytes track 256) (conductor 4 bars ∷ map event_of graces ∷ []))
    ≡ 77 ∷ 84 ∷ 104 ∷ 100 ∷ 0 ∷ 0 ∷ 0 ∷ 6 ∷ 0 ∷ 1 ∷ 0 ∷ 2 ∷ 0 ∷ 64 ∷ 77 ∷ 84 ∷ 114 ∷ 107 ∷ 0 ∷ 0 ∷ 0 ∷ 20 ∷ 0 ∷ 255 ∷ 81 ∷ 3 ∷ 7 ∷ 161 ∷ 32 ∷ 0 ∷ 255 ∷ 88 ∷ 4 ∷ 4 ∷ 2 ∷ 24 ∷ 8 ∷ 130 ∷ 0 ∷ 255 ∷ 47 ∷ 0 ∷ 77 ∷ 84 ∷ 114 ∷ 107 ∷ 0 ∷ 0 ∷ 0 ∷ 29 ∷ 64 ∷ 144 ∷ 62 ∷ 64 ∷ 1 ∷ 128 ∷ 62 ∷ 0 ∷ 0 ∷ 144 ∷ 64 ∷ 64 ∷ 1 ∷ 128 ∷ 64 ∷ 0 ∷ 0 ∷ 144 ∷ 60 ∷ 64 ∷ 62 ∷ 128 ∷ 60 ∷ 0 ∷ 129 ∷ 0 ∷ 255 ∷ 47 ∷ 0 ∷ []
unfolding graces bytes_from count_trailing_zeros
graces_written = refl

graces_played : spine_events 4 (map (span_event 1) (quarter 1 (2 ^ 62 ∷ 2 ^ 64 ∷ []) (2 ^ 60) ∷ [])) 1 0 ≡ map event_of graces
unfolding graces rising_keys
graces_played = refl

-- ---- as many grace chords as ticks: they take no time

crowded : event_notes 1 0 (record { start = record { num = 0; den = 1 }; len = record { num = 1; den = 64 }; keys = 2 ^ 62; graces = 2 ^ 60 ∷ []; short = false })
    ≡ note 0 60 0 ∷ note 0 62 1 ∷ []
unfolding rising_keys
crowded = refl

-- ---- 20,000 bars of four quarters, with a unit for each 960th: their last barline is too late for a file

abbrev four_quarters : ScoreBar
four_quarters = record { num = 4; den = 4; tempo = 500000; sf = None }

parts_after : (n before : ℕ) → fold (λ parts bar. parts + score_bar_parts 960 bar) before (replicate n four_quarters) ≡ before + n * 61440
parts_after zero before = omega arith
parts_after (suc n) before = parts_after n (before + 61440) ∙ omega arith

too_late : HasRenderFault 960 (replicate 20000 four_quarters) (TooLong 1228800000)
too_late =
    let parts : score_parts 960 (replicate 20000 four_quarters) ≡ 1228800000 = parts_after 20000 0 in
    (sym parts, subst (λ last. GREATEST_QUANTITY < last) (sym parts) (omega arith))

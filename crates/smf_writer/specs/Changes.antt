-- What changes at the barlines, as events: the tempo, the signature and the key, each where it differs from that of the bar before.
use Rattle.std.specs.Prelude.{ℕ, ℤ, ◌+◌, Bool, false, ◌==◌, if◌then◌else◌, List, [], ◌∷◌, ◌++◌, Option, Some, None}
use Rattle.std.specs.Int.{trailing_zeros, w8}
use Rattle.std.specs.List.{flat_map}
use Rattle.rhythm_base.specs.declared.event.Event.{Event}
use Rattle.rhythm_base.specs.declared.event.What.{What}
use Rattle.rhythm_base.specs.declared.event.What.TheVariants.{Tempo, Signature, KeySig}
use Rattle.derivation.specs.declared.score.ScoreBar.{ScoreBar}
use Rattle.score_words.specs.Changes.{key_before, same_key, same_signature}
use Rattle.voice_events.specs.Parts.{score_bar_parts}

-- a tempo is the one before to the microsecond; before the first bar there is none
abbrev pub same_midi_tempo : Option ScoreBar → ScoreBar → Bool
same_midi_tempo None bar = false
same_midi_tempo (Some before) bar = before.tempo == bar.tempo

-- ---- changes

abbrev pub tempo_event : Option ScoreBar → ScoreBar → Option What
tempo_event before bar = if same_midi_tempo before bar then None else Some (Tempo bar.tempo)

-- a file writes a signature with the power of two that its beat is
abbrev pub signature_event : Option ScoreBar → ScoreBar → Option What
signature_event before bar = if same_signature before bar then None else Some (Signature bar.num (trailing_zeros w8 bar.den))

-- no key is said while there is none
abbrev pub key_event : Option ℤ → Option ℤ → Option What
key_event before None = None
key_event before (Some sf) = if same_key before sf then None else Some (KeySig sf)

abbrev pub change_at : ℕ → Option What → List Event
change_at tick None = []
change_at tick (Some what) = record { tick = tick; what = what } ∷ []

-- the changes of a bar that begins at a tick, after another bar or at the beginning
abbrev pub changes_at : ℕ → Option ScoreBar → ScoreBar → List Event
changes_at tick before bar =
    flat_map (change_at tick) (tempo_event before bar ∷ signature_event before bar ∷ key_event (key_before before) bar.sf ∷ [])

-- those of all bars from a tick on
abbrev pub changes_from : ℕ → Option ScoreBar → ℕ → List ScoreBar → List Event
changes_from resolution before tick [] = []
changes_from resolution before tick (bar ∷ bars) =
    changes_at tick before bar ++ changes_from resolution (Some bar) (tick + score_bar_parts resolution bar) bars

abbrev pub conductor : ℕ → List ScoreBar → List Event
conductor resolution bars = changes_from resolution None 0 bars

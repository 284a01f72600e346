-- What is heard of the notes of a voice, in parts of 1/(64 * resolution) of a whole note.
use Rattle.std.specs.Prelude.{◌≡◌, ℕ, ◌+◌, false, List, [], ◌∷◌, Option, Some, None}
use Rattle.std.specs.List.{flat_map}
use Rattle.rhythm_base.specs.declared.span.Span.{Span}
use Rattle.durations.specs.Spans.{IsFrac}
use Rattle.derivation.specs.declared.score.ScoreBar.{ScoreBar}
use Rattle.voice_events.specs.Parts.{score_bar_parts}
use Rattle.text_words.specs.Steps.{◌>>=◌}
use Rattle.notation.specs.Notes.{Group, Note}
use Rattle.notation_laws.specs.Hearing.{HeardSpan, HeardVoice, Stretch, ended_spans, hear, hear_graces, unheard}

abbrev pub note_stretch : Note → Stretch ℕ
note_stretch n = record { len = n.duration; keys = n.keys; short = n.short; comes = n.comes; goes = n.goes }

-- a note after the grace chords before it
abbrev pub hear_note : HeardVoice ℕ → Note → Option (HeardVoice ℕ)
hear_note h n = hear_graces h n.graces >>= λ graced. hear ◌+◌ graced (note_stretch n)

abbrev pub hear_notes : HeardVoice ℕ → List Note → Option (HeardVoice ℕ)
hear_notes h [] = Some h
hear_notes h (n ∷ notes) = hear_note h n >>= λ next. hear_notes next notes

abbrev pub group_notes : List Group → List Note
group_notes groups = flat_map (λ g. g.notes) groups

abbrev pub rest_stretch : ℕ → Stretch ℕ
rest_stretch len = record { len = len; keys = 0; short = false; comes = false; goes = false }

-- a bar without groups is a rest as long as the bar
abbrev pub hear_bar : ℕ → ScoreBar → HeardVoice ℕ → List Group → Option (HeardVoice ℕ)
hear_bar resolution bar h [] = hear ◌+◌ h (rest_stretch (score_bar_parts resolution bar))
hear_bar resolution bar h (group ∷ groups) = hear_notes h (group_notes (group ∷ groups))

-- the bars of a voice, each with its groups
abbrev pub hear_bars : ℕ → List ScoreBar → HeardVoice ℕ → List (List Group) → Option (HeardVoice ℕ)
hear_bars resolution [] h [] = Some h
hear_bars resolution [] h (groups ∷ all) = None
hear_bars resolution (bar ∷ bars) h [] = None
hear_bars resolution (bar ∷ bars) h (groups ∷ all) =
    hear_bar resolution bar h groups >>= λ next. hear_bars resolution bars next all

-- the spans of a voice, which begins with the score
abbrev pub voice_heard : ℕ → List ScoreBar → List (List Group) → Option (List (HeardSpan ℕ))
voice_heard resolution bars all = hear_bars resolution bars (unheard 0) all >>= ended_spans

-- bars that are heard in full: each from where the one before ends to as much later as it is long, and no grace chord
-- waits at a barline
abbrev pub AreHeardInFull : ℕ → List ScoreBar → HeardVoice ℕ → List (List Group) → Type 0
AreHeardInFull resolution [] h all = all ≡ []
AreHeardInFull resolution (bar ∷ bars) h [] = ⊥
AreHeardInFull resolution (bar ∷ bars) h (groups ∷ all) =
    (next : HeardVoice ℕ) × (hear_bar resolution bar h groups ≡ Some next)
    × (next.at ≡ h.at + score_bar_parts resolution bar)
    × (next.graces ≡ []) × AreHeardInFull resolution bars next all

-- a span is what was heard in parts of 1/d of a whole note
pub record IsSpanHeard (d : ℕ) (heard : HeardSpan ℕ) (x : Span) : Type 0 where
  pub start : IsFrac heard.start d x.start
  pub len : IsFrac heard.len d x.len
  pub keys : x.keys ≡ heard.keys
  pub graces : x.graces ≡ heard.graces
  pub short : x.short ≡ heard.short

-- The spans of a voice as they are made along its sounds.
use Rattle.std.specs.Prelude.{◌≡◌, ℕ, List, ◌∷◌, ◌++◌, Vec}
use Rattle.rhythm_base.specs.declared.note.Bar.{Bar}
use Rattle.rhythm_base.specs.declared.sound.Sound.{Sound}
use Rattle.rhythm_base.specs.declared.span.Frac.{Frac}
use Rattle.rhythm_base.specs.declared.span.Span.{Span}
use Rattle.rhythm_base.specs.SoundKinds.{is_short}
use Rattle.durations.specs.Spans.{AreSpans}

-- the span of a chord that begins with a sound
abbrev pub span_of : Sound → Frac → Frac → Span
span_of s start len = record { start = start; len = len; keys = s.keys; graces = s.graces; short = is_short s.kind }

-- the spans that begin with a sound stand after others: with those of the sounds after it they are the spans of all these sounds
abbrev pub AddsSpansOf : {A : Type 0} → Sound → List Sound → ℕ → List Bar → Vec Span A → Vec Span A → Type 0
AddsSpansOf s later resolution bars before after =
    (more : List Span) → AreSpans resolution bars later more
    → (own : List Span) × (after.items ≡ before.items ++ own) × AreSpans resolution bars (s ∷ later) (own ++ more)

-- The spans of the voices of a score are its events.
use Rattle.std.proofs.Common.{ℕ, suc, List, [], ◌∷◌, refl}
use Rattle.rhythm_base.specs.declared.note.Bar.{Bar}
use Rattle.rhythm_base.specs.declared.sound.Sound.{Sound}
use Rattle.rhythm_base.specs.declared.span.Span.{Span}
use Rattle.rhythm_base.specs.Lists.{Each}
use Rattle.durations.specs.Spans.{AreSpans}
use Rattle.voice_events.specs.Events.{AreVoiceSpans}
use Rattle.voice_events.proofs.ScoreEvents.{decided}
use Rattle.notation_laws.specs.Laws.{SpansAreTheEvents}
use Rattle.notation_laws.specs.VoicesEvents.{voices_events}

voice_spans : (r : ℕ) (bars : List Bar) (spine : ℕ) (voices : List (List Sound)) (all : List (List Span))
    → Each (AreSpans r bars) voices all
    → AreVoiceSpans r bars spine voices (voices_events spine all)
voice_spans r bars spine [] [] each = refl
voice_spans r bars spine [] (spans ∷ all) each = absurd (cc)
voice_spans r bars spine (sounds ∷ voices) [] each = absurd each
voice_spans r bars spine (sounds ∷ voices) (spans ∷ all) (own, each) =
    (spans, voices_events (suc spine) all, own, voice_spans r bars (suc spine) voices all each, refl)

pub spans_are_events : SpansAreTheEvents
spans_are_events s bars all signatures each =
    decided s bars (voices_events 1 all) signatures (voice_spans s.resolution bars 1 s.voices all each)

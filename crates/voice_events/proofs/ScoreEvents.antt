-- A score has one list of events, and they are such as a writer takes.
use Rattle.std.proofs.Common.{◌≡◌, ℕ, suc, ◌*◌, ◌≤◌, List, [], ◌∷◌, ◌++◌, length, map, refl, sym, ap₂, ◌∙◌, subst}
use Rattle.std.specs.Prelude.{All, sum_by}
use Rattle.std.proofs.lemmas.List.Elements.{All-head, All-tail}
use Rattle.rhythm_base.specs.declared.note.Bar.{Bar}
use Rattle.rhythm_base.specs.declared.sound.Sound.{Sound}
use Rattle.rhythm_base.specs.Signatures.{IsSignature}
use Rattle.durations.specs.Spans.{parts_of_unit}
use Rattle.derivation.proofs.OneSpans.{one_list}
use Rattle.derivation.proofs.SpansExist.{spans_exist}
use Rattle.derivation.specs.declared.score.ScoreBar.{ScoreBar}
use Rattle.derivation.specs.WellSounded.{AreWellSounded}
use Rattle.voice_events.specs.declared.event.KernEvent.{KernEvent}
use Rattle.voice_events.specs.Events.{AreVoiceSpans, HaveSignatures, span_event}
use Rattle.voice_events.specs.Laws.{ScoreEventsAreOne, ScoreEventsAreVoiceEvents, ScoreEventsExist, SignaturesDecideEvents}
use Rattle.voice_events.specs.VoiceEvents.{AreVoiceEventsFrom}
use Rattle.voice_events.proofs.AlikeBars.{spans_alike}
use Rattle.voice_events.proofs.BarUnits.{signatures_kept, some_bar}
use Rattle.voice_events.proofs.ScoreBars.{same_count, same_parts, well_signed}
use Rattle.voice_events.proofs.SpansFollow.{of_voice}

-- there are bars of the signatures of a score
some_bars : List ScoreBar → List Bar
some_bars bars = map some_bar bars

have_some : (bars : List ScoreBar) → HaveSignatures bars (some_bars bars)
unfolding some_bars
have_some bars = signatures_kept bars

pub decided : SignaturesDecideEvents
decided s bars events have are = λ others own. spans_alike s.bars s.resolution bars others 1 s.voices events have own are

voices_one : (r : ℕ) (bars : List Bar) (spine : ℕ) (voices : List (List Sound)) (a b : List KernEvent) → 1 ≤ r
    → AreVoiceSpans r bars spine voices a → AreVoiceSpans r bars spine voices b → a ≡ b
voices_one r bars spine [] a b some h k = h ∙ sym k
voices_one r bars spine (sounds ∷ voices) a b some (xs, more, are, rest, is) (ys, other, same, others, equal) =
    is ∙ ap₂ (λ spans events. map (span_event spine) spans ++ events) (one_list r bars sounds xs ys some are same)
    (voices_one r bars (suc spine) voices more other some rest others) ∙ sym equal

pub events_one : ScoreEventsAreOne
events_one s a b some h k =
    let bars = some_bars s.bars in
    let have = have_some s.bars in
    voices_one s.resolution bars 1 s.voices a b some (h bars have) (k bars have)

voices_exist : (r : ℕ) (bars : List Bar) (spine : ℕ) (voices : List (List Sound)) → 1 ≤ r
    → (events : List KernEvent) × AreVoiceSpans r bars spine voices events
voices_exist r bars spine [] some = ([], refl)
voices_exist r bars spine (sounds ∷ voices) some =
    let own = spans_exist r bars sounds some in
    let rest = voices_exist r bars (suc spine) voices some in
    (map (span_event spine) own.0 ++ rest.0, (own.0, rest.0, own.1, rest.1, refl))

pub events_exist : ScoreEventsExist
events_exist s some =
    let found = voices_exist s.resolution (some_bars s.bars) 1 s.voices some in
    (found.0, decided s (some_bars s.bars) found.0 (have_some s.bars) found.1)

-- ---- in each voice they follow one another

voices_from : (r : ℕ) (bars : List Bar) (spine : ℕ) (voices : List (List Sound)) (events : List KernEvent)
    → All (λ b. IsSignature b.num b.den) bars
    → All (AreWellSounded r (length bars)) voices → AreVoiceSpans r bars spine voices events
    → AreVoiceEventsFrom r (r * sum_by parts_of_unit bars) spine (length voices) events
voices_from r bars spine [] events are well spans = spans
voices_from r bars spine (sounds ∷ voices) events are well (own, others, is, rest, all) = (
  own,
  others,
  of_voice r bars are sounds own (All-head (AreWellSounded r (length bars)) sounds voices well) is,
  voices_from r bars (suc spine) voices others are (All-tail (AreWellSounded r (length bars)) sounds voices well) rest,
  all,
)

pub events_follow : ScoreEventsAreVoiceEvents
events_follow s events is are =
    let bars = some_bars s.bars in
    let have = have_some s.bars in
    let well = subst (λ n. All (AreWellSounded s.resolution n) s.voices) (sym (same_count s.bars bars have)) is.voices in
    subst (λ end. AreVoiceEventsFrom s.resolution end 1 (length s.voices) events) (same_parts s.resolution s.bars bars have)
    (voices_from s.resolution bars 1 s.voices events (well_signed s.bars bars have is.bars) well (are bars have))

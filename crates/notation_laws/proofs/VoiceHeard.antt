-- What is heard of the groups of a voice are its spans.
use Rattle.std.proofs.Common.{◌≡◌, ℕ, suc, ◌+◌, ◌*◌, ◌<◌, ◌≤◌, ◌==◌, Bool, true, false, cond, List, [], ◌∷◌, ◌++◌, Option, Some, None, append-nil, length, map, refl, sym, ap, ◌∙◌, subst, arith}
use Rattle.std.specs.Prelude.{All}
use Rattle.std.specs.List.{prefix_len}
use Rattle.std.proofs.lemmas.Bool.{false≢true}
use Rattle.std.proofs.lemmas.Bool.Decides.{nat_tests}
use Rattle.std.proofs.lemmas.List.{length-map, take-append-drop}
use Rattle.std.proofs.lemmas.List.Elements.{All-cons, All-head, All-nil, All-tail, All-weaker}
use Rattle.std.proofs.lemmas.List.Sums.{take_while-cons}
use Rattle.rhythm_base.specs.declared.note.Bar.{Bar}
use Rattle.rhythm_base.specs.declared.sound.Sound.{Sound}
use Rattle.rhythm_base.specs.declared.span.Span.{Span}
use Rattle.rhythm_base.specs.Lists.{Each}
use Rattle.rhythm_base.specs.SoundKinds.{is_tie}
use Rattle.durations.specs.Spans.{IsSpan, chord_runs}
use Rattle.durations.proofs.Wide.{some_product}
use Rattle.derivation.specs.declared.score.ScoreBar.{ScoreBar}
use Rattle.derivation.specs.Score.{IsScoreBar}
use Rattle.derivation.specs.WellSounded.{IsWellSounding, TiesGoOn}
use Rattle.derivation.proofs.FilledBars.{parts_at}
use Rattle.voice_events.specs.Events.{HaveSignatures}
use Rattle.derivation.specs.Ahead.{later_sounds, own_sounds}
use Rattle.voice_values.specs.Ahead.{begins_with_tie}
use Rattle.voice_values.specs.Values.{AreBarValues, sounds_in_bar}
use Rattle.voice_values.proofs.BarSounds.{stand_fill, stand_later}
use Rattle.voice_values.proofs.TimedSounds.{some_whole}
use Rattle.text_words.specs.Steps.{◌>>=◌}
use Rattle.notation.specs.Bars.{AreVoiceGroups, grouped}
use Rattle.notation.specs.Notes.{Group, IsGroup}
use Rattle.notation.specs.Tokens.{bar_tokens}
use Rattle.notation.proofs.BarRuns.{scale}
use Rattle.notation.proofs.VoiceLemmas.{AreAhead, ahead_later, own_are, tie_ahead}
use Rattle.voice_values.proofs.BarSounded.{sounded}
use Rattle.voice_events.proofs.BarUnits.{AreUnits, units_are}
use Rattle.notation_laws.specs.Hearing.{HeardSpan, ended_spans}
use Rattle.notation_laws.specs.Laws.{IsVoice, VoicesAreHeard}
use Rattle.notation_laws.specs.NotesHeard.{IsSpanHeard, hear_bar, hear_bars, voice_heard}
use Rattle.notation_laws.proofs.BarHeard.{bar_heard}
use Rattle.notation_laws.proofs.Segments.{clean, hear_segments}
use Rattle.notation_laws.proofs.SoundSegments.{IsKeyed, sound_segments, sounds_say}
use Rattle.notation_laws.proofs.SoundsHeard.{IsHeardTo, bar_sounds_heard, keyed, run_heard, spans_heard}

-- ---- the sounds of a bar, and those after it

own_split : (n : ℕ) (sounds : List Sound) → own_sounds n sounds ++ later_sounds n sounds ≡ sounds
own_split n sounds = take-append-drop (prefix_len (λ s. s.bar == n) sounds) sounds

own_bars : (n : ℕ) (sounds : List Sound) → All (λ s. s.bar ≡ n) (own_sounds n sounds)
own_bars n [] = All-nil (λ s. s.bar ≡ n)
own_bars n (s ∷ sounds) =
    subst (All (λ s. s.bar ≡ n)) (sym (take_while-cons (λ s. s.bar == n) s sounds)) (go (s.bar == n) refl (own_bars n sounds))
  where
    go : (b : Bool) → (s.bar == n) ≡ b → All (λ s. s.bar ≡ n) (own_sounds n sounds)
        → All (λ s. s.bar ≡ n) (cond b (s ∷ own_sounds n sounds) [])
    go true e rest = let same : s.bar ≡ n = grind (arith, nat_tests, e) in All-cons (λ s. s.bar ≡ n) s (own_sounds n sounds) same rest
    go false e rest = All-nil (λ s. s.bar ≡ n)

pub all_front : {X : Type 0} (P : X → Type 0) (xs ys : List X) → All P (xs ++ ys) → All P xs
all_front P [] ys all = All-nil P
all_front P (x ∷ xs) ys all = All-cons P x xs (All-head P x (xs ++ ys) all) (all_front P xs ys (All-tail P x (xs ++ ys) all))

-- ---- bar by bar

module _ (r total : ℕ) (bars : List Bar) (answer : List (HeardSpan ℕ)) (some : 1 ≤ r) (fits : total ≤ length bars) where
  abbrev Reached : List Sound → List (HeardSpan ℕ) → ℕ → Option (HeardSpan ℕ) → Type 0
  Reached later done at going = IsHeardTo r total bars answer later done at going

  end_heard : (done : List (HeardSpan ℕ)) (at : ℕ) (going : Option (HeardSpan ℕ)) → Reached [] done at going
      → ended_spans (clean done at going) ≡ Some answer
  end_heard done at None h = ap (λ k. Some k) (sym (append-nil done) ∙ h.all)
  end_heard done at (Some x) h = absurd (false≢true h.on)

  bars_heard : (n : ℕ) (sbars : List ScoreBar) (sounds later : List Sound) (all : List (List Group)) (done : List (HeardSpan ℕ)) (at : ℕ)
      (going : Option (HeardSpan ℕ))
      → n + length sbars ≡ total → All IsScoreBar sbars → AreUnits bars n sbars → AreAhead r total n sounds later
      → AreVoiceGroups r n sbars sounds all
      → Reached later done at going → (hear_bars r sbars (clean done at going) all >>= ended_spans) ≡ Some answer
  bars_heard n [] sounds [] all done at going count right units ahead groups h =
      ap (λ gs. hear_bars r [] (clean done at going) gs >>= ended_spans) groups ∙ end_heard done at going h
  bars_heard n [] sounds (s ∷ later) all done at going count right units ahead groups h =
      let few = ahead.stand.0 in absurd (omega (arith, few, count))
  bars_heard n (bar ∷ sbars) sounds later [] done at going count right units ahead groups h = absurd groups
  bars_heard n (bar ∷ sbars) sounds later (own_groups ∷ all) done at going count right (within, unit, units) ahead
      ((vs, odd, values, part, each), groups) h =
      let few : n < total = omega (arith, count) in
      let well = All-head IsScoreBar bar sbars right in
      let own = own_sounds n later in
      let after = later_sounds n later in
      let next = ahead_later r total n sounds later ahead (stand_later r total n later few ahead.stand) in
      let fill = stand_fill r total n later few ahead.stand in
      let tie : begins_with_tie after ≡ begins_with_tie (sounds_in_bar (suc n) sounds) = tie_ahead r total (suc n) sounds after next in
      let mine : AreBarValues r bar own vs = subst (λ xs. AreBarValues r bar xs vs) (sym (own_are r total n sounds later ahead)) values in
      let whole = some_whole r bar some well in
      let long = All-weaker (λ s. 1 ≤ s.width) (λ s. 1 ≤ s.width * bar.num)
      (λ s wide. some_product s.width bar.num wide well.signature.some) own fill.some in
      let split = own_split n later in
      let keys = All-weaker IsWellSounding IsKeyed (λ s w. keyed s w) own
      (all_front IsWellSounding own after (subst (All IsWellSounding) (sym split) h.well)) in
      let said = sounds_say r bar some well 0 0 (begins_with_tie after) own vs keys (sounded r bar well whole own vs long mine) in
      let heard = bar_sounds_heard r total bars answer n own after done at going fits (own_bars n later)
      (subst (λ xs. Reached xs done at going) (sym split) h) in
      let here : hear_segments (clean done at going) (sound_segments (bar.num * scale bar) (begins_with_tie after) own)
      ≡ Some (clean heard.after heard.place heard.next) =
      subst (λ u. hear_segments (clean done at going) (sound_segments u (begins_with_tie after) own)
      ≡ Some (clean heard.after heard.place heard.next)) unit heard.heard in
      let own_each = subst (λ b. Each (IsGroup r odd) (grouped r odd bar (bar_tokens r odd bar b vs)) own_groups) (sym tie) each in
      let one : hear_bar r bar (clean done at going) own_groups ≡ Some (clean heard.after heard.place heard.next) =
      bar_heard r odd bar (begins_with_tie after) own vs own_groups some part well fill.full mine own_each done at going
      (clean heard.after heard.place heard.next)
      (said done at going (clean heard.after heard.place heard.next) here) in
      ap (λ o. (o >>= λ next. hear_bars r sbars next all) >>= ended_spans) one
      ∙ bars_heard (suc n) sbars sounds after all heard.after heard.place heard.next (omega (arith, count))
      (All-tail IsScoreBar bar sbars right) units next groups heard.reached

-- ---- the voice

-- the spans of runs are what is heard of the runs
module _ (r total : ℕ) (bars : List Bar) where
  span_is : (run : Sound × List Sound) (x : Span) → IsSpanHeard (64 * r) (run_heard r total bars run) x → IsSpan r bars run x
  span_is run x is = record { start = is.start; len = is.len; keys = is.keys; graces = is.graces; short = is.short }

  is_span : (run : Sound × List Sound) (x : Span) → IsSpan r bars run x → IsSpanHeard (64 * r) (run_heard r total bars run) x
  is_span run x is = record { start = is.start; len = is.len; keys = is.keys; graces = is.graces; short = is.short }

  spans_are : (runs : List (Sound × List Sound)) (spans : List Span)
      → Each (IsSpanHeard (64 * r)) (map (run_heard r total bars) runs) spans → Each (IsSpan r bars) runs spans
  spans_are [] spans each = each
  spans_are (run ∷ runs) [] each = each
  spans_are (run ∷ runs) (x ∷ spans) (own, each) = (span_is run x own, spans_are runs spans each)

  are_spans : (runs : List (Sound × List Sound)) (spans : List Span)
      → Each (IsSpan r bars) runs spans → Each (IsSpanHeard (64 * r)) (map (run_heard r total bars) runs) spans
  are_spans [] spans each = each
  are_spans (run ∷ runs) [] each = each
  are_spans (run ∷ runs) (x ∷ spans) (own, each) = (is_span run x own, are_spans runs spans each)

as_many : (sbars : List ScoreBar) (bars : List Bar) → HaveSignatures sbars bars → length sbars ≡ length bars
as_many sbars bars have =
    sym (length-map sbars (λ (b : ScoreBar). signature b.num b.den)) ∙ sym (ap length have)
    ∙ length-map bars (λ (b : Bar). signature b.num b.den)
  where
    signature : ℕ → ℕ → ℕ × ℕ
    signature num den = (num, den)

no_tie_first : (sounds : List Sound) → TiesGoOn None sounds → begins_with_tie sounds ≡ false
no_tie_first [] ties = refl
no_tie_first (s ∷ sounds) ties = go (is_tie s.kind) refl
  where
    go : (b : Bool) → is_tie s.kind ≡ b → is_tie s.kind ≡ false
    go false e = e
    go true e = absurd (ties.0 e)

-- what is heard of the groups of a voice are the runs of its sounds
pub voice_runs : (r : ℕ) (sbars : List ScoreBar) (bars : List Bar) (sounds : List Sound) (all : List (List Group)) → IsVoice r sbars sounds
    → HaveSignatures sbars bars → AreVoiceGroups r 0 sbars sounds all
    → voice_heard r sbars all ≡ Some (spans_heard r (length sbars) bars sounds)
voice_runs r sbars bars sounds all voice signatures groups =
    let total = length sbars in
    let fits : total ≤ length bars = let e = as_many sbars bars signatures in omega (arith, e) in
    bars_heard r total bars (spans_heard r total bars sounds) voice.some_unit fits 0 sbars sounds sounds all [] 0 None
    (omega arith) voice.each_bar
    (units_are bars sbars signatures) (record { stand = voice.well.places; same = λ m le. refl }) groups (record {
      bar = 0;
      unit = 0;
      before = None;
      stand = voice.well.places;
      well = voice.well.each;
      ties = voice.well.ties;
      place = nothing r (parts_at bars 0);
      with = tt;
      on = no_tie_first sounds voice.well.ties;
      all = refl;
    })
  where
    nothing : (r q : ℕ) → 0 ≡ r * 0 + 0 * q
    nothing r q = grind arith

pub voices_heard : VoicesAreHeard
voices_heard r sbars bars sounds all voice signatures groups = record {
  heard = spans_heard r (length sbars) bars sounds;
  hears = voice_runs r sbars bars sounds all voice signatures groups;
  spans = λ spans.
      (spans_are r (length sbars) bars (chord_runs sounds) spans, are_spans r (length sbars) bars (chord_runs sounds) spans);
}

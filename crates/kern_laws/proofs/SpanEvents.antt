-- The events of a score that is written are the spans of its voices.
use Rattle.std.proofs.Common.{◌≡◌, ℕ, suc, ◌+◌, ◌*◌, ◌≤◌, List, [], ◌∷◌, length, map, sym, ap, ◌∙◌, subst, arith, append-nil}
use Rattle.kern_laws.proofs.GridParts.{finer_times}
use Rattle.std.specs.Prelude.{◌↔◌, All, reverse, slice_index_or}
use Rattle.std.proofs.lemmas.List.Elements.{All-head, All-nil, All-tail}
use Rattle.rhythm_base.specs.declared.note.Bar.{Bar}
use Rattle.rhythm_base.specs.declared.sound.Sound.{Sound}
use Rattle.rhythm_base.specs.Lists.{Each}
use Rattle.durations.specs.Spans.{chord_runs}
use Rattle.derivation.specs.WellSounded.{AreWellSounded}
use Rattle.derivation.specs.declared.score.ScoreBar.{ScoreBar}
use Rattle.derivation.specs.Score.{IsScore, IsScoreBar, Score}
use Rattle.voice_values.specs.Values.{AreVoiceValues, VoiceValue}
use Rattle.voice_events.specs.declared.event.KernEvent.{KernEvent}
use Rattle.kern_reader.specs.declared.token.Token.{Token}
use Rattle.kern_reader.specs.Columns.{columns_of, grid_of}
use Rattle.kern_reader.specs.Events.{AreEvents, AreEventsFrom, beginnings}
use Rattle.kern_reader.specs.Score.{IsColumnOn, IsTokenOn, score_columns}
use Rattle.kern_reader.proofs.ColumnLemmas.{columns_on, grid_some}
use Rattle.voice_events.specs.Events.{AreVoiceSpans, HaveSignatures}
use Rattle.kern_laws.specs.Lines.{KernLine}
use Rattle.kern_laws.proofs.ScoreLines.{AreScoreLines, voice_said}
use Rattle.kern_laws.proofs.BarVoice.{AreVoice}
use Rattle.kern_laws.proofs.LineEnds.{IsSpelled}
use Rattle.kern_laws.proofs.LineScore.{few_parts, score_done, sounds_voice}
use Rattle.kern_laws.proofs.LineWalk.{walk_after}
use Rattle.kern_laws.proofs.PlaceParts.{clean}
use Rattle.kern_laws.proofs.SpanClean.{each_original}
use Rattle.kern_laws.proofs.SpanMatch.{IsMatch, kern_spans, sound_spans}
use Rattle.kern_laws.proofs.SpanTokens.{bars_read, clean_reversed, voice_read}
use Rattle.voice_events.proofs.BarUnits.{AreUnits, units_are}
use Rattle.kern_laws.proofs.SpanVoices.{voice_matches}
use Rattle.rhythm_base.proofs.ListParts.{all_reversed}

module _ (r : ℕ) (sbars : List ScoreBar) (bars : List Bar) (some : 1 ≤ r) (few : 64 * r ≤ 61440) (right : All IsScoreBar sbars) (units : AreUnits bars 0 sbars)
    (g t : ℕ) (fine : 1 ≤ g) (positive : 1 ≤ t) (finer : g * t ≡ 64 * r) where
  -- one column
  column_matches : (sounds : List Sound) (vss : List (List VoiceValue)) (column : List Token) → AreVoice r 0 sbars sounds vss → IsSpelled sbars (voice_said vss) column → IsColumnOn g column
      → Each (IsMatch g r bars) (beginnings [] (reverse column)) (chord_runs sounds)
  column_matches sounds vss column voice spelt on =
      let read : clean (reverse column) ≡ voice_read sbars vss =
      clean_reversed column ∙ ap reverse spelt ∙ bars_read r 0 sbars (voice_said vss) sounds vss [] (λ k. let e : 0 + k ≡ k = omega arith in ap (λ i. slice_index_or (voice_said vss) i []) e) voice in
      let matches = voice_matches r bars some few sbars sounds vss right units voice in
      let here : Each (IsMatch (g * t) r bars) (beginnings [] (clean (reverse column))) (chord_runs sounds) =
      subst (λ k. Each (IsMatch k r bars) (beginnings [] (clean (reverse column))) (chord_runs sounds)) (sym finer)
      (subst (λ ts. Each (IsMatch (64 * r) r bars) (beginnings [] ts) (chord_runs sounds)) (sym read) matches) in
      each_original g t positive r bars [] (reverse column) (chord_runs sounds) (All-nil (IsTokenOn g)) (all_reversed (IsTokenOn g) column on) here

  -- all columns
  events_voices : (spine : ℕ) (voices : List (List Sound)) (values : List (List (List VoiceValue))) (columns : List (List Token)) (events : List KernEvent)
      → All (AreWellSounded r (length sbars)) voices → Each (AreVoiceValues r 0 sbars) voices values → Each (IsSpelled sbars) (map voice_said values) columns → All (IsColumnOn g) columns
      → AreEventsFrom g spine (map reverse columns) events ↔ AreVoiceSpans r bars spine voices events
  events_voices spine [] values columns events well are spelt on =
      let none : columns ≡ [] = subst (λ vs. Each (IsSpelled sbars) (map voice_said vs) columns) are spelt in (
        λ read. subst (λ cs. AreEventsFrom g spine (map reverse cs) events) none read,
        λ written. subst (λ cs. AreEventsFrom g spine (map reverse cs) events) (sym none) written,
      )
  events_voices spine (sounds ∷ voices) [] columns events well are spelt on = absurd are
  events_voices spine (sounds ∷ voices) (vss ∷ values) [] events well are spelt on = absurd spelt
  events_voices spine (sounds ∷ voices) (vss ∷ values) (column ∷ columns) events well (own, rest) (one, more) on =
      let voice = sounds_voice r sbars sounds vss some right (All-head (AreWellSounded r (length sbars)) sounds voices well) own in
      let matches = column_matches sounds vss column voice one (All-head (IsColumnOn g) column columns on) in
      let later = λ (others : List KernEvent). events_voices (suc spine) voices values columns others (All-tail (AreWellSounded r (length sbars)) sounds voices well) rest more (All-tail (IsColumnOn g) column columns on) in (
        λ (spans, others, are_spans, are_others, same).
            (spans, others, kern_spans g r bars fine some (beginnings [] (reverse column)) (chord_runs sounds) spans matches are_spans, (later others).0 are_others, same),
        λ (spans, others, are_spans, are_others, same).
            (spans, others, sound_spans g r bars fine some (beginnings [] (reverse column)) (chord_runs sounds) spans matches are_spans, (later others).1 are_others, same),
      )

pub events_are_spans : (s : Score) (lines : List KernLine) (bars : List Bar) (events : List KernEvent) → IsScore s → AreScoreLines s lines → HaveSignatures s.bars bars
    → AreEvents (score_columns (reverse lines)) events ↔ AreVoiceSpans s.resolution bars 1 s.voices events
events_are_spans s lines bars events is are have =
    let (after, done) = score_done s lines is are in
    let same : reverse lines ≡ after = sym (walk_after (length (map voice_said are.values)) [] lines after done.walk ∙ append-nil (reverse lines)) in
    let few = few_parts s.resolution is.few_units in
    let some : 1 ≤ 64 * s.resolution = let h = is.some_unit in omega (arith, h) in
    let g = grid_of after in
    let (t, positive, finer) = finer_times g (64 * s.resolution) some done.divides in
    let units = units_are bars s.bars have in
    let counted = columns_on after done.well in
    let all = events_voices s.resolution s.bars bars is.some_unit few is.bars units g t (grid_some after done.well) positive finer
    1 s.voices are.values (columns_of after) events is.voices are.are_values done.each counted in
    subst (λ ls. AreEvents (score_columns ls) events ↔ AreVoiceSpans s.resolution bars 1 s.voices events) (sym same) all

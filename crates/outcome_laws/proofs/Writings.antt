-- A session on a performance is written in each form, or has a stop.
use Rattle.std.proofs.Common.{◌+◌, ◌*◌, ◌≤◌, ◌++◌, ℕ, inl, inr, List, length, map, refl, arith, Result, Ok, Err}
use Rattle.std.specs.List.{flat_map}
use Rattle.std.proofs.lemmas.Bool.{cases_lt}
use Rattle.std.proofs.lemmas.List.{length-map}
use Rattle.answer_laws.proofs.Openings.{opening_or_fault}
use Rattle.answer_laws.proofs.Scores.{some_written_score}
use Rattle.derivation.proofs.OneScore.{scores_one}
use Rattle.derivation.specs.PerformanceScore.{score_bar}
use Rattle.derivation.specs.declared.score.ScoreBar.{ScoreBar}
use Rattle.edit_session.specs.Opening.{CanOpen}
use Rattle.musicxml_writer.proofs.OneText as marking
use Rattle.page_writer.proofs.OnePage as paging
use Rattle.event_laws.proofs.VoiceEvents.{texts_have}
use Rattle.voice_events.specs.declared.event.KernEvent.{KernEvent}
use Rattle.kern_writer.specs.PerformanceText.{IsKernTextOf}
use Rattle.rhythm_app.specs.Outcome.{AreEventsOf, IsWriting, Ready, open_stop, say}
use Rattle.rhythm_app.specs.declared.request.Form.{Form}
use Rattle.rhythm_app.specs.declared.request.Form.TheVariants as form
use Rattle.rhythm_app.specs.declared.stop.Stop.{Stop}
use Rattle.rhythm_app.specs.declared.stop.Stop.TheVariants as stop
use Rattle.rhythm_base.specs.Grammar.{Grammar}
use Rattle.rhythm_base.specs.Performance.{IsWellFormed, Performance}
use Rattle.rhythm_base.specs.Readable.{IsReadable}
use Rattle.kern_writer.specs.PerformanceText.{IsWrittenScore}
use Rattle.smf_bytes.specs.Chunk.{header_bytes}
use Rattle.smf_bytes.specs.declared.quantity.TheConstants.{GREATEST_QUANTITY}
use Rattle.smf_writer.specs.Changes.{conductor}
use Rattle.smf_writer.specs.RenderedFile.{IsRendered}
use Rattle.smf_writer.specs.Strokes.{voices_from}
use Rattle.smf_writer.proofs.Tracks.{rendered_up_to, track_of}
use Rattle.voice_events.specs.Parts.{score_parts}
use Rattle.outcome_laws.proofs.EventKeys.{score_events_few}
use Rattle.outcome_laws.proofs.Pages.{some_page}
use Rattle.outcome_laws.proofs.ShortTracks.{conductor_short, voices_short}
use Rattle.outcome_laws.proofs.TextWeights.{text_keys}

module _ (g : Grammar) (p : Performance) (readable : IsReadable g) (formed : IsWellFormed p) where
  abbrev bars : List ScoreBar
  bars = map (score_bar p) p.bars

  -- the events of the text
  events_of : (text : List ℕ) → IsKernTextOf g p text → (list : List KernEvent) × AreEventsOf g p list
  events_of text written =
      let events = texts_have.some g p text readable formed written.0 in
      (events.2, record { text = text; written = written; score = events.0; read = events.1; are = events.3 })

  -- their file, where it is early enough
  file_of : (list : List KernEvent) → AreEventsOf g p list → score_parts g.resolution bars ≤ GREATEST_QUANTITY → (bytes : List ℕ) × IsRendered g.resolution bars p.channels list bytes
  file_of list are early =
      let last : ℕ = score_parts g.resolution bars in
      let voices = texts_have.events g p are.text are.score list readable formed are.written.0 are.read are.are in
      let within = text_keys are.text are.score are.read in
      let few = score_events_few are.score list are.are in
      let short = are.written.1 in
      let count = length-map p.bars (score_bar p) in
      let bytes : List ℕ =
      (header_bytes (length p.channels + 1) (16 * g.resolution) ++ track_of last (conductor g.resolution bars)) ++ flat_map (track_of last) (voices_from g.resolution list 1 p.channels) in (
        bytes,
        rendered_up_to g.resolution bars p.channels list bytes last refl early voices
            (conductor_short g.resolution last bars (omega (arith, count, formed.few_bars)))
            (voices_short g.resolution last list (omega (arith, within, few, short)) 1 p.channels) refl,
      )

  module _ (can : CanOpen g p) where
    abbrev IsWrittenIn : Form → Type 0
    IsWrittenIn f = (r : Result Ready Stop) × IsWriting f g p r

    in_form : (f : Form) (text : List ℕ) → IsKernTextOf g p text → IsWrittenIn f
    in_form form.Score text written = (Ok (say text), (can, written))
    in_form form.LilyPond text written =
        let list = events_of text written in
        let page = some_page g.resolution readable.ranges.some_unit bars (length p.channels) list.0 in
        (Ok (say page.0), (can, (list.0, list.1, page.1)))
    in_form form.Page text written =
        let page = paging.some_page written.0.0 p.channels (scores_one.can_be_written g p written.0.0 readable formed written.0.1) in
        (Ok (say page.0), (can, (written.0.0, text, written.0.1, written, page.1)))
    in_form form.MusicXml text written =
        let xml = marking.some_text written.0.0 p.channels (scores_one.can_be_written g p written.0.0 readable formed written.0.1) in
        (Ok (say xml.0), (can, (written.0.0, text, written.0.1, written, xml.1)))
    in_form form.Rendered text written = elim (cases_lt GREATEST_QUANTITY (score_parts g.resolution bars)) [
      | inl late ↦ (
        Err (stop.RenderTooLong (score_parts g.resolution bars)),
        inr (inr (text, score_parts g.resolution bars, can, written, (refl, late), refl)),
      )
      | inr early ↦
          let list = events_of text written in
          let file = file_of list.0 list.1 early in
          (Ok (say file.0), (can, (list.0, list.1, file.1)))
    ]

    by_score : (f : Form) (r : Result (List ℕ) ℕ) → IsWrittenScore g p r → IsWrittenIn f
    by_score f (Ok text) written = in_form f text written
    by_score f (Err line) long = (Err (stop.ScoreTooLong line), inr (inl (line, can, long, refl)))

  pub some_writing : (f : Form) → (r : Result Ready Stop) × IsWriting f g p r
  some_writing f = elim (opening_or_fault g p readable formed) [
    | inl can ↦ let score = some_written_score g p readable formed can.derivations in by_score can f score.0 score.1
    | inr fault ↦ (Err (open_stop fault.0), inl (fault.0, fault.2, fault.1, refl))
  ]

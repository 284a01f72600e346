-- The events that are read of the text of a score are those of the score, and a writer can take them.
use Rattle.std.proofs.Common.{◌≡◌, ℕ, suc, ◌≤◌, List, [], ◌∷◌, length, map, sym, ap, ◌∙◌, subst, arith}
use Rattle.std.specs.Prelude.{All, Ok, Result}
use Rattle.std.proofs.lemmas.List.{length-map}
use Rattle.rhythm_base.specs.Grammar.{Grammar}
use Rattle.rhythm_base.specs.Lists.{Each}
use Rattle.rhythm_base.specs.Performance.{IsWellFormed, Performance}
use Rattle.rhythm_base.specs.Readable.{IsReadable}
use Rattle.derivation.proofs.OneScore.{scores_one}
use Rattle.derivation.specs.declared.score.ScoreBar.{ScoreBar}
use Rattle.derivation.specs.PerformanceScore.{score_bar}
use Rattle.derivation.specs.Score.{IsScore, IsScoreBar, Score}
use Rattle.kern_writer.specs.PerformanceText.{IsTextOf}
use Rattle.kern_writer.specs.Text.{IsScoreText}
use Rattle.voice_events.specs.declared.event.KernEvent.{KernEvent}
use Rattle.kern_reader.specs.Events.{AreEvents}
use Rattle.kern_reader.specs.Outcome.{score_of}
use Rattle.kern_reader.specs.Score.{KernColumns}
use Rattle.kern_laws.proofs.ReadBack.{scores_read_back}
use Rattle.voice_events.specs.Events.{HaveSignatures}
use Rattle.voice_events.specs.VoiceEvents.{AreVoiceEvents}
use Rattle.voice_events.specs.Writable.{IsWritable}
use Rattle.voice_events.proofs.BarUnits.{signatures_kept, some_bar}
use Rattle.voice_events.proofs.ScoreEvents.{decided, events_exist, events_follow}
use Rattle.event_laws.specs.Laws.{ScoreTextsHaveTheirEvents, TextsHaveTheirEvents, TextsHaveVoiceEvents}
use Rattle.rhythm_base.proofs.PairedLists.{each_length}

-- ---- what is read of its text are the events of the score

same_value : {A E : Type 0} (x : Result A E) (a b : A) → x ≡ Ok a → x ≡ Ok b → a ≡ b
same_value x a b e f = let both : Ok a ≡ Ok b = sym e ∙ f in cc

pub score_events : ScoreTextsHaveTheirEvents
score_events s text is written =
    let bars = map some_bar s.bars in
    let have : HaveSignatures s.bars bars = signatures_kept s.bars in
    let reads = scores_read_back s bars text is have written in (
      reads.score,
      reads.read,
      λ events. (λ read. decided s bars events have ((reads.events events).0 read), λ are. (reads.events events).1 (are bars have)),
    )

pub their_events : TextsHaveTheirEvents
their_events g p s text readable formed of (t, own, written) =
    let same : t ≡ s = scores_one.score g p t s readable formed own of in
    score_events s text (scores_one.can_be_written g p s readable formed of) (subst (λ (u : Score). IsScoreText u text) same written)

-- ---- and a writer can take them

some_events : (g : Grammar) (p : Performance) (text : List ℕ) → IsReadable g → IsWellFormed p → IsTextOf g p text
    → (k : KernColumns) × (score_of text ≡ Ok k) × (events : List KernEvent) × AreEvents k events
some_events g p text readable formed (s, of, written) =
    let (k, read, exactly) = their_events g p s text readable formed of (s, of, written) in
    let found = events_exist s (scores_one.can_be_written g p s readable formed of).some_unit in
    (k, read, found.0, (exactly found.0).1 found.1)

text_events : (g : Grammar) (p : Performance) (text : List ℕ) (k : KernColumns) (events : List KernEvent) → IsReadable g
    → IsWellFormed p → IsTextOf g p text
    → score_of text ≡ Ok k → AreEvents k events → AreVoiceEvents g.resolution (map (score_bar p) p.bars) (length p.channels) events
text_events g p text k events readable formed (s, of, written) read are =
    let (own_k, own_read, exactly) = their_events g p s text readable formed of (s, of, written) in
    let same : k ≡ own_k = same_value (score_of text) k own_k read own_read in
    let score_events = (exactly events).0 (subst (λ k. AreEvents k events) same are) in
    let own = events_follow s events (scores_one.can_be_written g p s readable formed of) score_events in
    let count : length s.voices ≡ length p.channels = each_length _ p.channels s.voices of.voices in
    subst (λ n. AreVoiceEvents g.resolution (map (score_bar p) p.bars) n events) count
    (subst (λ (bars : List ScoreBar). AreVoiceEvents g.resolution bars (length s.voices) events) of.bars
    (subst (λ r. AreVoiceEvents r s.bars (length s.voices) events) of.resolution own))

writable : (g : Grammar) (p : Performance) (text : List ℕ) → IsReadable g → IsWellFormed p → IsTextOf g p text
    → IsWritable g.resolution (map (score_bar p) p.bars) (length p.channels)
writable g p text readable formed (s, of, written) =
    let is : IsScore s = scores_one.can_be_written g p s readable formed of in
    let count : length s.voices ≡ length p.channels = each_length _ p.channels s.voices of.voices in
    let bars = length-map p.bars (score_bar p) in
    record {
      some_unit = subst (λ r. 1 ≤ r) of.resolution is.some_unit;
      few_units = subst (λ r. r ≤ 960) of.resolution is.few_units;
      each_bar = subst (All IsScoreBar) of.bars is.bars;
      few_bars = omega (arith, bars, formed.few_bars);
      some_voice = subst (λ n. 1 ≤ n) count is.some_voice;
      few_voices = subst (λ n. n ≤ 16) count is.few_voices;
    }

pub texts_have : TextsHaveVoiceEvents
texts_have = record { some = some_events; events = text_events; writable = writable }

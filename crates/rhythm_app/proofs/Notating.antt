-- What a writer of another form is handed: the events of a score, its bars and its voices.
use Rattle.rhythm_base.specs.declared.limits.TheConstants.{MOST_VOICES}
use Rattle.std.proofs.Common.{◌≡◌, ◌≤◌, ◌∙◌, ℕ, List, ap, arith, length, map, sym, subst}
use Rattle.derivation.specs.PerformanceScore.{AreLeastSounds, IsScoreOf, score_bar}
use Rattle.derivation.specs.Score.{Score}
use Rattle.derivation.specs.declared.score.ScoreBar.{ScoreBar}
use Rattle.edit_session.proofs.EachRuns.{Each-length}
use Rattle.event_laws.proofs.VoiceEvents.{texts_have}
use Rattle.voice_events.specs.declared.event.KernEvent.{KernEvent}
use Rattle.rhythm_app.specs.Outcome.{AreEventsOf}
use Rattle.rhythm_base.specs.Grammar.{Grammar}
use Rattle.rhythm_base.specs.Performance.{IsWellFormed, Performance}
use Rattle.rhythm_base.specs.Readable.{IsReadable}
use Rattle.smf_writer.specs.RenderedFile.{AreChannels}
use Rattle.voice_events.specs.VoiceEvents.{AreVoiceEvents}
use Rattle.voice_events.specs.Writable.{IsWritable}

-- a score has a voice for each channel of the performance
pub as_many : (g : Grammar) (p q : Performance) (s : Score) (channels : List ℕ) → IsScoreOf g p s → q ≡ p → channels ≡ q.channels → length channels ≡ length s.voices
as_many g p q s channels is same own =
    omega (arith, ap (λ (c : List ℕ). length c) own, ap (λ (q : Performance). length q.channels) same, Each-length (AreLeastSounds g p) p.channels s.voices is.voices)

module _ (g : Grammar) (p : Performance) (list : List KernEvent) (readable : IsReadable g) (formed : IsWellFormed p) (are : AreEventsOf g p list) where
  all_writable : IsWritable g.resolution (map (score_bar p) p.bars) (length p.channels)
  all_writable = texts_have.writable g p are.text readable formed are.written.0

  pub few_voices : (q : Performance) → q ≡ p → length q.channels ≤ MOST_VOICES
  few_voices q same = subst (λ (q : Performance). length q.channels ≤ MOST_VOICES) (sym same) all_writable.few_voices

  -- the voices have channels of their own
  pub own_channels : (channels : List ℕ) → channels ≡ p.channels → AreChannels channels
  own_channels channels same = subst AreChannels (sym same) (record { rise = formed.voices_rise; few = formed.voices })

  module _ (resolution voices : ℕ) (bars : List ScoreBar) (q : Performance) (units : resolution ≡ g.resolution) (all : bars ≡ map (score_bar p) p.bars) (same : q ≡ p)
      (count : voices ≡ length q.channels) where
    moved : (P : ℕ → List ScoreBar → ℕ → Type 0) → P g.resolution (map (score_bar p) p.bars) (length p.channels) → P resolution bars voices
    moved P h =
        let voices_are : voices ≡ length p.channels = count ∙ ap (λ (q : Performance). length q.channels) same in
        subst (λ n. P n bars voices) (sym units) (subst (λ (b : List ScoreBar). P g.resolution b voices) (sym all)
        (subst (λ n. P g.resolution (map (score_bar p) p.bars) n) (sym voices_are) h))

    pub writable : IsWritable resolution bars voices
    writable = moved IsWritable all_writable

    pub voice_events : (handed : List KernEvent) → handed ≡ list → AreVoiceEvents resolution bars voices handed
    voice_events handed taken =
        subst (AreVoiceEvents resolution bars voices) (sym taken)
        (moved (λ n b m. AreVoiceEvents n b m list) (texts_have.events g p are.text are.score list readable formed are.written.0 are.read are.are))

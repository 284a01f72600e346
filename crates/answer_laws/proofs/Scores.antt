-- Where each voice of a performance has a derivation there is a score, and its text or the first record past the longest.
use Rattle.std.proofs.Common.{ℕ, inl, inr, List, [], ◌∷◌, map, refl, Result, Ok, Err}
use Rattle.std.specs.Prelude.{All}
use Rattle.rhythm_base.specs.declared.sound.Sound.{Sound}
use Rattle.rhythm_base.specs.Forest.{Tree}
use Rattle.rhythm_base.specs.Grammar.{Grammar}
use Rattle.rhythm_base.specs.Lists.{Each}
use Rattle.rhythm_base.specs.Performance.{IsWellFormed, Performance}
use Rattle.rhythm_base.specs.Readable.{IsReadable}
use Rattle.rhythm_base.specs.Voices.{HasDerivation, IsLeastOf, voice_bars}
use Rattle.rhythm_base.proofs.OrderedLists.{all_head, all_tail}
use Rattle.derivation.specs.PerformanceScore.{AreLeastSounds, IsScoreOf, score_bar}
use Rattle.derivation.specs.Score.{Score}
use Rattle.derivation.specs.Sounds.{derivation_sounds}
use Rattle.derivation.proofs.OneScore.{scores_one}
use Rattle.kern_writer.proofs.TextsExist.{texts_exist}
use Rattle.kern_writer.specs.PerformanceText.{IsWrittenScore}
use Rattle.table_laws.proofs.Performances.{derivation_or_none}

module _ (g : Grammar) (p : Performance) where
  least_sounds : (channel : ℕ) (ts : List Tree) (is : IsLeastOf g p channel ts)
      → AreLeastSounds g p channel (derivation_sounds g (voice_bars g p channel) is.chords ts)
  least_sounds channel ts is = record { starts = is.starts; chords = is.chords; are_chords = is.are_chords; trees = ts; least = is.least; are = refl }

  module _ (readable : IsReadable g) (formed : IsWellFormed p) where
    sounds_of : (channel : ℕ) → HasDerivation g p channel → (sounds : List Sound) × AreLeastSounds g p channel sounds
    sounds_of channel has = elim (derivation_or_none g p readable formed has.2 channel) [
      | inl least ↦ (_, least_sounds channel least.0 least.1)
      | inr none ↦ absurd (none has)
    ]

    all_sounds : (channels : List ℕ) → All (HasDerivation g p) channels → (voices : List (List Sound)) × Each (AreLeastSounds g p) channels voices
    all_sounds [] all = ([], refl)
    all_sounds (channel ∷ channels) all =
        let own = sounds_of channel (all_head (HasDerivation g p) channel channels all) in
        let others = all_sounds channels (all_tail (HasDerivation g p) channel channels all) in
        (own.0 ∷ others.0, (own.1, others.1))

    pub some_score : All (HasDerivation g p) p.channels → (s : Score) × IsScoreOf g p s
    some_score all =
        let voices = all_sounds p.channels all in (
          record { resolution = g.resolution; bars = map (score_bar p) p.bars; voices = voices.0 },
          record { resolution = refl; bars = refl; voices = voices.1 },
        )

    pub some_written_score : All (HasDerivation g p) p.channels → (r : Result (List ℕ) ℕ) × IsWrittenScore g p r
    some_written_score all =
        let score = some_score all in
        elim (texts_exist.short_or_too_long score.0 (scores_one.can_be_written g p score.0 readable formed score.1)) [
          | inl short ↦ (Ok short.0, ((score.0, score.1, short.1), short.2))
          | inr long ↦ (Err long.0, (score.0, score.1, long.1))
        ]

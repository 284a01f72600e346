-- The voices of a score have their groups, in one way.
use Rattle.std.proofs.Common.{◌≡◌, ℕ, List, [], ◌∷◌, length, refl}
use Rattle.rhythm_base.specs.Lists.{Each}
use Rattle.rhythm_base.specs.declared.sound.Sound.{Sound}
use Rattle.derivation.specs.Score.{IsScore, Score}
use Rattle.derivation.specs.WellSounded.{AreWellSounded}
use Rattle.derivation.proofs.Pairs.{each_one}
use Rattle.notation.specs.Bars.{AreVoiceGroups}
use Rattle.notation.specs.Notes.{Group}
use Rattle.notation.proofs.GroupingsExist.{groups_exist}
use Rattle.notation.proofs.OneGrouping.{groups_one}

module _ (s : Score) (score : IsScore s) where
  abbrev AreOf : List Sound → List (List Group) → Type 0
  AreOf = AreVoiceGroups s.resolution 0 s.bars

  pub written_one : (a b : List (List (List Group))) → Each AreOf s.voices a → Each AreOf s.voices b → a ≡ b
  written_one a b each too =
      each_one AreOf (AreWellSounded s.resolution (length s.bars)) s.voices a b
      (λ sounds xs ys _ h k. groups_one.of_voice s.resolution s.bars sounds xs ys score.some_unit score.bars h k) score.voices each too

  pub some_written : (written : List (List (List Group))) × Each AreOf s.voices written
  some_written = all s.voices
    where
      all : (voices : List (List Sound)) → (written : List (List (List Group))) × Each AreOf voices written
      all [] = ([], refl)
      all (sounds ∷ voices) =
          let own = groups_exist.of_voice s.resolution s.bars sounds score.some_unit score.bars in
          let others = all voices in
          (own.0 ∷ others.0, (own.1, others.1))

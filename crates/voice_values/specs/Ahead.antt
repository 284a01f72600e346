-- The sounds of a voice from a bar on.
use Rattle.std.specs.Prelude.{◌≡◌, ℕ, ◌≤◌, Bool, false, List, [], ◌∷◌, All, map, sum}
use Rattle.rhythm_base.specs.declared.sound.Sound.{Sound}
use Rattle.rhythm_base.specs.SoundKinds.{is_tie}
use Rattle.derivation.specs.Ahead.{own_sounds}

-- the first one is a tie
abbrev pub begins_with_tie : List Sound → Bool
begins_with_tie [] = false
begins_with_tie (s ∷ sounds) = is_tie s.kind

-- the sounds of the bar fill it
pub record FillBar (resolution n : ℕ) (sounds : List Sound) : Type 0 where
  pub some : All (λ s. 1 ≤ s.width) (own_sounds n sounds)
  pub full : sum (map (λ s. s.width) (own_sounds n sounds)) ≡ resolution

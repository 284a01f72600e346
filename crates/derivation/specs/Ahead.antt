-- The sounds of a voice from a bar on.
use Rattle.std.specs.Prelude.{ℕ, ◌==◌, List, drop}
use Rattle.std.specs.List.{prefix_len, take_while}
use Rattle.rhythm_base.specs.declared.sound.Sound.{Sound}

-- those of the bar, up to the first that is not of it ..
abbrev pub own_sounds : ℕ → List Sound → List Sound
own_sounds n sounds = take_while (λ s. s.bar == n) sounds

-- .. and those after them
abbrev pub later_sounds : ℕ → List Sound → List Sound
later_sounds n sounds = drop (prefix_len (λ s. s.bar == n) sounds) sounds

-- Where a key or a signature is said in all staves, each staff begins the bar with as many grace chords: else it would stand twice there.
use Rattle.std.specs.Prelude.{ℕ, ℤ, ◌-◌, Bool, true, false, ◌&&◌, not, if◌then◌else◌, List, [], ◌∷◌, Option, Some, None, length, map}
use Rattle.std.specs.List.{range_with_len}
use Rattle.rhythm_base.specs.declared.sound.Sound.{Sound}
use Rattle.rhythm_base.specs.Lists.{greatest}
use Rattle.derivation.specs.declared.score.ScoreBar.{ScoreBar}
use Rattle.voice_values.specs.Values.{sounds_in_bar}
use Rattle.notation.specs.Notes.{Group}
use Rattle.score_words.specs.Changes.{key_before, same_key, same_signature}
use Rattle.page_writer.specs.Bars.{first_graces}

-- ---- the most grace chords before the first sound of a bar in any voice

abbrev pub graces_of_first : List Sound → List ℕ
graces_of_first [] = []
graces_of_first (s ∷ sounds) = s.graces

abbrev pub begun_graces : ℕ → List Sound → ℕ
begun_graces n sounds = length (graces_of_first (sounds_in_bar n sounds))

abbrev pub most_graces : List (List Sound) → ℕ → ℕ
most_graces voices n = greatest (map (begun_graces n) voices)

-- those of so many bars, from the first on
abbrev pub most_in_bars : List (List Sound) → ℕ → List ℕ
most_in_bars voices bars = map (most_graces voices) (range_with_len 0 bars)

-- ---- silent grace chords

abbrev pub is_same_sf : Option ℤ → Option ℤ → Bool
is_same_sf before (Some sf) = same_key before sf
is_same_sf (Some other) None = false
is_same_sf None None = true

-- the key or the signature is not that of the bar before
abbrev pub is_said : Option ScoreBar → ScoreBar → Bool
is_said before bar = not (same_signature before bar && is_same_sf (key_before before) bar.sf)

-- what a voice with these groups lacks, where some voice has so many
abbrev pub silent_graces : Option ScoreBar → ScoreBar → ℕ → List Group → ℕ
silent_graces before bar most groups = if is_said before bar then most - length (first_graces groups) else 0

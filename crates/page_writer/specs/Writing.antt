-- What is counted and written on the way to a page.
use Rattle.std.specs.Prelude.{◌≡◌, ℕ, ◌==◌, ◌<◌, ◌++◌, true, List, OnOk, Result, Vec, filter, length, map, max, slice_index}
use Rattle.rhythm_base.specs.declared.sound.Sound.{Sound}
use Rattle.rhythm_base.specs.Lists.{Each}
use Rattle.derivation.specs.declared.score.ScoreBar.{ScoreBar}
use Rattle.notation.specs.Bars.{AreVoiceGroups}
use Rattle.notation.specs.Notes.{Group}
use Rattle.score_words.specs.TextLines.{lines_text}
use Rattle.page_writer.specs.Graces.{most_in_bars}
use Rattle.page_writer.specs.Staves.{staves_lines}

-- how many grace chords stand before each sound that begins a bar
abbrev pub start_graces : List Sound → List ℕ
start_graces sounds = map (λ s. length s.graces) (filter (λ s. s.place == 0) sounds)

-- each number is raised to another one at its place, where that is greater
abbrev pub AreRaised : List ℕ → List ℕ → List ℕ → Type 0
AreRaised most own new = (k : ℕ) → k < length most → slice_index new k ≡ max (slice_index most k) (slice_index own k)

-- the staves of the voices, by the groups of each, stand after a text, unless there was not enough memory
abbrev pub WritesStaves :
    {A X E : Type 0} → ℕ → List ScoreBar → List ℕ → List (List Sound) → Vec ℕ A → Result X E → Vec ℕ A → Type 0
WritesStaves resolution bars channels voices before result after =
    OnOk result ((written : List (List (List Group))) × Each (AreVoiceGroups resolution 0 bars) voices written
    × (after.items ≡ before.items ++ lines_text (staves_lines true bars (most_in_bars voices (length bars)) channels voices written)))

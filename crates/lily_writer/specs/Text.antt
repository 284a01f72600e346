-- The LilyPond text of a score: its staves, voice after voice.
use Rattle.std.specs.Prelude.{◌≡◌, ℕ, ◌==◌, List, [], ◌∷◌, ◌++◌, codes}
use Rattle.std.specs.List.{flat_map, range_with_len}
use Rattle.rhythm_base.specs.Lists.{Each}
use Rattle.derivation.specs.declared.score.ScoreBar.{ScoreBar}
use Rattle.voice_events.specs.declared.event.KernEvent.{KernEvent}
use Rattle.score_words.specs.TextLines.{lines_text}
use Rattle.lily_writer.specs.Staves.{AreStaffLines, voice_spans}

abbrev pub page_head : List (List ℕ)
page_head = codes "\\version \"2.24.0\"" ∷ codes "\\score {" ∷ codes "<<" ∷ []

abbrev pub page_tail : List (List ℕ)
page_tail = codes ">>" ∷ codes "}" ∷ []

-- the lines of the staff of a spine; the first one says the tempos
abbrev pub IsStaff : ℕ → List ScoreBar → List KernEvent → ℕ → List (List ℕ) → Type 0
IsStaff resolution bars events spine lines = AreStaffLines resolution bars (spine == 1) (voice_spans spine events) lines

-- the text of events of so many voices over these bars
abbrev pub IsLilyText : ℕ → List ScoreBar → ℕ → List KernEvent → List ℕ → Type 0
IsLilyText resolution bars voices events text =
    (staves : List (List (List ℕ))) × Each (IsStaff resolution bars events) (range_with_len 1 voices) staves
    × (text ≡ lines_text (page_head ++ flat_map (λ lines. lines) staves ++ page_tail))

-- The page of a score: a LilyPond text that is engraved as it is.
use Rattle.std.specs.Prelude.{◌≡◌, ℕ, nat_le, nat_lt, true, if◌then◌else◌, List, [], ◌∷◌, ◌++◌, codes, decimal, length}
use Rattle.rhythm_base.specs.Lists.{Each}
use Rattle.derivation.specs.Score.{Score}
use Rattle.notation.specs.Bars.{AreVoiceGroups}
use Rattle.notation.specs.Notes.{Group}
use Rattle.page_writer.specs.Graces.{most_in_bars}
use Rattle.page_writer.specs.Staves.{staves_lines}
use Rattle.score_words.specs.TextLines.{lines_text}

-- how high a staff is, in points, where there are so many
abbrev pub staff_size : ℕ → ℕ
staff_size staves = if nat_le staves 2 then 18 else if nat_le staves 4 then 16 else if nat_le staves 7 then 13 else 11

abbrev pub version_lines : List (List ℕ)
version_lines = codes "\\version \"2.24.0\"" ∷ codes "\\header { tagline = ##f }" ∷ []

abbrev pub size_line : ℕ → List ℕ
size_line staves = codes "#(set-global-staff-size " ++ decimal (staff_size staves) ++ codes ")"

-- systems are counted as if they stood wider apart than they do: else a page is filled too much
abbrev pub paper_lines : List (List ℕ)
paper_lines =
    codes "\\paper { page-breaking-system-system-spacing = #'((basic-distance . 14) (minimum-distance . 10) (padding . 8)) }"
    ∷ codes "\\score {" ∷ []

abbrev pub head_lines : ℕ → List (List ℕ)
head_lines staves = version_lines ++ size_line staves ∷ paper_lines

-- several staves are under a bracket
abbrev pub opening_lines : ℕ → List (List ℕ)
opening_lines staves = if nat_lt 1 staves then codes "\\new StaffGroup <<" ∷ [] else []

abbrev pub closing_lines : ℕ → List (List ℕ)
closing_lines staves = if nat_lt 1 staves then codes ">>" ∷ [] else []

-- a staff that rests for a line is left out there
abbrev pub tail_lines : List (List ℕ)
tail_lines = codes "\\layout { indent = 22\\mm short-indent = 8\\mm \\context { \\Staff \\RemoveEmptyStaves } }" ∷ codes "}" ∷ []

-- the staves of a score, with the groups of each voice in each bar
abbrev pub score_lines : Score → List ℕ → List (List (List Group)) → List (List ℕ)
score_lines s channels written = staves_lines true s.bars (most_in_bars s.voices (length s.bars)) channels s.voices written

abbrev pub page_lines : Score → List ℕ → List (List (List Group)) → List (List ℕ)
page_lines s channels written =
    head_lines (length s.voices) ++ opening_lines (length s.voices) ++ score_lines s channels written ++ closing_lines (length s.voices) ++ tail_lines

-- the page of a score whose voices are of these channels
abbrev pub IsPage : Score → List ℕ → List ℕ → Type 0
IsPage s channels text =
    (written : List (List (List Group))) × Each (AreVoiceGroups s.resolution 0 s.bars) s.voices written
    × (text ≡ lines_text (page_lines s channels written))

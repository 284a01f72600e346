-- The staff of a voice: its head, its clef, and bar after bar the lines of what changes, and of the bar.
use Rattle.std.specs.Prelude.{ℕ, Bool, false, List, [], ◌∷◌, ◌++◌, Option, Some, None, codes, decimal}
use Rattle.rhythm_base.specs.declared.sound.Sound.{Sound}
use Rattle.derivation.specs.declared.score.ScoreBar.{ScoreBar}
use Rattle.notation.specs.declared.clef.Clef.{Clef}
use Rattle.notation.specs.declared.clef.Clef.TheVariants.{BassBelow, Bass, Treble, TrebleAbove}
use Rattle.notation.specs.Clefs.{clef_of}
use Rattle.notation.specs.Notes.{Group}
use Rattle.page_writer.specs.Bars.{bar_line}
use Rattle.score_words.specs.LilyChanges.{lily_changes}
use Rattle.page_writer.specs.Graces.{silent_graces}

abbrev pub staff_head : ℕ → List ℕ
staff_head channel =
    codes "\\new Staff \\with { instrumentName = \"Channel " ++ decimal channel ++ codes "\" shortInstrumentName = \"" ++ decimal channel
    ++ codes "\" } {"

abbrev pub clef_text : Clef → List ℕ
clef_text BassBelow = codes "bass_8"
clef_text Bass = codes "bass"
clef_text Treble = codes "treble"
clef_text TrebleAbove = codes "treble^8"

abbrev pub clef_line : Clef → List ℕ
clef_line clef = codes "\\clef \"" ++ clef_text clef ++ codes "\""

-- the lines of bars, the first of which stands after another one or none. There are the most grace chords with which any voice begins each of
-- them, and the groups of this voice; tempos are said or not
abbrev pub bars_lines : Bool → Option ScoreBar → List ScoreBar → List ℕ → List (List Group) → List (List ℕ)
bars_lines first before [] most all = []
bars_lines first before (bar ∷ bars) [] all = []
bars_lines first before (bar ∷ bars) (m ∷ most) [] = []
bars_lines first before (bar ∷ bars) (m ∷ most) (groups ∷ all) =
    lily_changes first before bar ++ bar_line bar (silent_graces before bar m groups) groups ∷ bars_lines first (Some bar) bars most all

-- the last barline is drawn as such
abbrev pub staff_end : List (List ℕ)
staff_end = codes "\\bar \"|.\"" ∷ codes "}" ∷ []

-- the staff of a channel, with the sounds of its voice and their groups in each bar
abbrev pub staff_lines : Bool → List ScoreBar → List ℕ → ℕ → List Sound → List (List Group) → List (List ℕ)
staff_lines first bars most channel sounds all =
    staff_head channel ∷ clef_line (clef_of sounds) ∷ (bars_lines first None bars most all ++ staff_end)

-- the staves of the voices by their channels, of which the first says tempos or does not
abbrev pub staves_lines : Bool → List ScoreBar → List ℕ → List ℕ → List (List Sound) → List (List (List Group)) → List (List ℕ)
staves_lines first bars most channels [] written = []
staves_lines first bars most [] (sounds ∷ voices) written = []
staves_lines first bars most (channel ∷ channels) (sounds ∷ voices) [] = []
staves_lines first bars most (channel ∷ channels) (sounds ∷ voices) (all ∷ written) =
    staff_lines first bars most channel sounds all ++ staves_lines false bars most channels voices written
